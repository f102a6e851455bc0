pub mod Streamed
pub mod Machines
