pub mod Refusals
pub use Rattle.sbx_sound.proofs.Whole
