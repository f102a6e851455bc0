pub mod Telling
pub mod Paid
pub mod Blocks
pub mod Params
pub mod Arriving
pub mod Locating
pub mod InOrder
