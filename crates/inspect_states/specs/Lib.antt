pub mod Columns
pub mod Accesses
pub mod Registers
pub mod Words
pub mod Lines
pub mod Runs
pub mod Told
