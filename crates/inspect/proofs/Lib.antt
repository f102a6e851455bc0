pub mod Telling
pub mod Stated
pub mod Sourcing
