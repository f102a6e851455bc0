pub mod Values
pub mod Memory
pub mod Counts
pub mod World
pub mod Arms
pub mod Runs
