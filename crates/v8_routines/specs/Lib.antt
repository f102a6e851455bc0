pub mod Overflow
pub mod Underflow
pub mod Services
