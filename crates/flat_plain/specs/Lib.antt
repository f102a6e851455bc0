pub mod Shows
pub mod Comes
