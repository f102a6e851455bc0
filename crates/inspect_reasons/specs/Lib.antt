pub mod Shapes
pub mod Tagged
