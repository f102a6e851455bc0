pub mod Faults
pub mod Regions
pub mod Rules
pub mod Widths
pub mod Order
