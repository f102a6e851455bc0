pub mod Ports
pub mod Outputs
pub mod Runs
pub mod Text
pub mod Traces
pub use Rattle.sbx_put.specs.Fronts
