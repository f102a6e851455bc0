pub mod Marks
pub mod Users
pub mod Handlers
