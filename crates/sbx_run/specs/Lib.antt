pub mod Pages
pub mod Answer
pub use Rattle.v8_board.specs.declared.outcome.Outcome
pub use Rattle.sbx_raw.specs.Traces
pub use Rattle.sbx_raw.specs.declared.fault.RunFault
pub use Rattle.sbx_verify.specs.Refusals
pub use Rattle.sbx_verify.specs.Law
pub use Rattle.sbx_shows.specs.WholeRuns
