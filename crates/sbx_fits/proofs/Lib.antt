pub mod Small
pub mod Entries
pub mod Known
pub mod Results
pub mod Others
pub mod Memory
pub mod Frames
pub mod Branches
