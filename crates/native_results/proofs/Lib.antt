pub mod Bits
pub mod Outcomes
pub mod Making
pub mod Shown
pub mod Adding
pub mod Divisions
