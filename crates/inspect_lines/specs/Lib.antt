pub mod Words
pub mod Faults
pub mod Output
pub mod Marks
