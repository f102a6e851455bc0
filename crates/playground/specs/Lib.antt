pub mod Rooms
pub mod Told
pub mod Denials
