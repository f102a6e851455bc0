pub mod Statements
pub mod Faults
