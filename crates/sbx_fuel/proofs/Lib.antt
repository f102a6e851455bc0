pub mod Products
pub mod Values
pub mod Reached
pub mod Counting
pub mod Exact
pub mod KeptBlocks
pub mod Locations
