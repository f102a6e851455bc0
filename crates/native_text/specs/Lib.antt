pub mod Pauses
pub mod Terms
pub mod Lines
pub mod Spelling
pub mod Programs
pub mod Words
pub mod Reading
