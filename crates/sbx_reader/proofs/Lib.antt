pub mod Lasting
pub mod Leaving
pub mod Resuming
