pub mod Accepting
pub mod Fronts
pub mod Pieces
pub mod Sources
