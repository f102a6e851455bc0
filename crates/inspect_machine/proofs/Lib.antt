pub mod Setting
pub mod Told
