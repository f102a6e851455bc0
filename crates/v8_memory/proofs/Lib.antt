pub mod Bytes
pub mod Places
mod Kept
