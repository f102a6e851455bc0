pub mod Objects
pub mod Images
pub mod Runs
pub mod Verdicts
pub mod Findings
