pub mod Reuse
pub mod Batches
