pub mod Shown
pub mod Stored
pub mod Went
pub mod Accessed
pub mod Cells
pub mod Starts
pub mod Reached
