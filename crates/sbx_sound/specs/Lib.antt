pub mod Law
pub mod Positive
pub mod Examples
pub use Rattle.sbx_rules.specs.Verdicts
pub use Rattle.sbx_rules.specs.declared.cause.Cause
pub use Rattle.sbx_rules.specs.declared.cause.Refusal
