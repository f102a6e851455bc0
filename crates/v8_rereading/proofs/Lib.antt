mod Bytes
mod Hearing
mod Pieces
mod Reading
mod Parts
mod Names
mod Covered
mod Whole
pub mod Lengths
mod Bare
