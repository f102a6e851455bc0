pub mod Own
pub mod Starts
