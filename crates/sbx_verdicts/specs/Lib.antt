pub mod Fields
pub mod Runs
pub mod Engine
pub mod Verdicts
