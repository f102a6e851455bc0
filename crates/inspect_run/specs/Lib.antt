pub mod Reports
pub mod Runs
pub mod Places
pub mod Heads
pub mod Watched
