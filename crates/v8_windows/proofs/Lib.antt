pub mod Masks
pub mod Neighbours
pub mod Shape
pub mod AfterWrites
pub mod Eights
pub mod Rows
pub mod Ring
