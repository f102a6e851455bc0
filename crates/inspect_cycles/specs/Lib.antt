pub mod Cycles
pub mod Faults
pub mod Pieces
