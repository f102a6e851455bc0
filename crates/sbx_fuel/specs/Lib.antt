pub mod Margins
pub mod Least
pub mod Blocks
