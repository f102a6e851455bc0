pub mod Labelling
pub mod Making
pub mod Transfers
pub mod Translating
pub mod Returning
pub mod Assembling
pub mod Pieces
