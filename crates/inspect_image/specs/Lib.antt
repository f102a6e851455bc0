pub mod Names
pub mod Images
