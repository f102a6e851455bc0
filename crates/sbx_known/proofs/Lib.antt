pub mod Visiting
pub mod InOrder
pub mod Searches
pub mod Limits
pub mod Stepping
pub mod Counts
pub mod Params
