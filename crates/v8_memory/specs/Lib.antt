pub mod Input
pub mod Board
pub mod Placing
