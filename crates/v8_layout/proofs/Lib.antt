pub mod Entries
pub mod Map
pub mod Rights
pub mod Stay
pub mod Marks
pub mod Words
