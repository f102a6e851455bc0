pub mod Labels
pub mod Dots
pub mod Groups
pub mod Counts
pub mod Appending
pub mod Misfits
