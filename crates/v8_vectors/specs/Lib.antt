pub mod Agreement
pub mod Pieces
