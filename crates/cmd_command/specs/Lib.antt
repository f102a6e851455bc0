pub use Rattle.cmd_filing.specs.Files
pub mod Streaming
pub mod Verdicts
pub mod Laws
pub use Rattle.cmd_stops.specs.Stops
