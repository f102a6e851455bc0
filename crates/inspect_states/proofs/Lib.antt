pub mod Told
pub mod Lines
pub mod Copied
pub mod OfImages
