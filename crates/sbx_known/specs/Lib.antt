pub mod Courses
pub mod Sorted
pub mod Spots
