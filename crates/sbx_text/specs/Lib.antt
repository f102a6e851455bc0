pub mod Tokens
pub mod Slices
pub mod Faults
