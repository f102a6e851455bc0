pub mod Firsts
pub mod Paying
pub mod Walks
pub use Rattle.sbx_rules.specs.Verdicts
pub use Rattle.sbx_rules.specs.declared.cause.Refusal
pub use Rattle.sbx_rules.specs.Places
pub use Rattle.sbx_rules.specs.declared.cause.Cause
pub use Rattle.sbx_rules.specs.Rules
