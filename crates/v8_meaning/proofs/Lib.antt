pub mod Fields
pub mod LateRows
pub mod Rows
