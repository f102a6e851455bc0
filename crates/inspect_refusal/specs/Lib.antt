pub mod Texts
pub mod Values
pub mod Refusals
pub mod Mends
