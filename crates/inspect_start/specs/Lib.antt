pub mod Faults
pub mod Starts
pub mod Lines
pub mod Names
pub mod Items
pub mod Files
