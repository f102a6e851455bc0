pub mod Ends
pub mod Policies
pub mod Runs
