pub mod Streamed
pub use Rattle.sbx_run.proofs.Refusals
pub use Rattle.sbx_run.proofs.Whole
