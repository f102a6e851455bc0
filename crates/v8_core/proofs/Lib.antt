pub mod Turns
pub mod Counted
pub use Rattle.v8_mmu.proofs.RamLemmas
pub use Rattle.v8_mmu.proofs.RamNumbers
pub use Rattle.v8_mmu.proofs.RamMore
pub use Rattle.v8_state.proofs.Fields
pub use Rattle.v8_formats.proofs.Keys
