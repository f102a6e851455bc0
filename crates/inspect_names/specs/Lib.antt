pub mod Findings
pub mod Rows
