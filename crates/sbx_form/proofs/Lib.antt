pub mod Values
pub mod Places
pub mod Ordered
pub mod Bounds
