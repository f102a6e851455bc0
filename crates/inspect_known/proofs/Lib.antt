pub mod Finding
pub mod Entering
pub mod Seeing
