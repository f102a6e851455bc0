pub mod Flow
pub mod Paid
pub mod Blocks
pub mod Beside
