pub mod UnderWay
pub mod Counts
pub mod Stepping
