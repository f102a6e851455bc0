pub mod Verdicts
pub mod Traces
pub mod Streamed
pub mod Safe
