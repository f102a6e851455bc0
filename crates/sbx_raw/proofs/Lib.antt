pub mod Digits
pub mod Lines
pub mod Runs
pub mod Unheard
pub use Rattle.sbx_put.proofs.Written
