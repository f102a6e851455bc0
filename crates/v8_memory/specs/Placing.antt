-- RAM with words or bytes placed in it.
use Rattle.std.specs.Prelude.{ℕ, ◌≡◌, ◌+◌, ◌*◌, ◌<◌, ◌≤◌, ◌⊎◌, List, length, slice_index, Some}
use Rattle.v8_mmu.specs.Ram.{entry_of}

-- The words from a place on are these, and 0 past their end; every other byte is as before.
pub record HasWords (at : ℕ) (words : List ℕ) (count : ℕ) (old new : List ℕ) : Type 0 where
  pub size : length new ≡ length old
  pub words_are : (k : ℕ) → k < count → entry_of new (at + 4 * k) ≡ Some (slice_index words k)
  pub fit : (p : ℕ) → at ≤ p → p < at + 4 * count → slice_index new p < 256
  pub others : (p : ℕ) → (p < at) ⊎ (at + 4 * count ≤ p) → slice_index new p ≡ slice_index old p

-- The same for bytes.
pub record HasBytesOf (at : ℕ) (bytes : List ℕ) (count : ℕ) (old new : List ℕ) : Type 0 where
  pub size : length new ≡ length old
  pub bytes_are : (k : ℕ) → k < count → slice_index new (at + k) ≡ slice_index bytes k
  pub fit : (p : ℕ) → at ≤ p → p < at + count → slice_index new p < 256
  pub others : (p : ℕ) → (p < at) ⊎ (at + count ≤ p) → slice_index new p ≡ slice_index old p
