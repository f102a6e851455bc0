pub mod Written
pub mod Denials
