pub mod Bare
pub mod Changed
pub mod Told
