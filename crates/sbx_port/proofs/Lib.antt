pub mod Carried
pub mod Followed
pub mod Tracked
pub mod Told
