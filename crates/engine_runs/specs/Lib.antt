pub mod Next
pub mod Going
pub mod Halts
pub mod Steps
pub mod Answer
