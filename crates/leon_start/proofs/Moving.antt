-- RAM of which so many words were moved.
use Rattle.std.proofs.Common.{◌≡◌, ℕ, ◌+◌, ◌*◌, ◌^◌, ◌<◌, ◌≤◌, ◌⊎◌, inl, inr, List, length, Some, ap, ◌∙◌, arith}
use Rattle.std.specs.Prelude.{IsSomeAnd}
use Rattle.v8_mmu.specs.Ram.{entry_of, with_entry}
use Rattle.v8_mmu.proofs.RamLemmas.{entry_of-with_entry}
use Rattle.v8_mmu.proofs.RamMore.{entry_elsewhere}
use Rattle.leon_start.specs.Starts.{start_word}
use Rattle.leon_start.specs.declared.start.RamPlace.{RamPlace}
use Rattle.leon_start.specs.declared.own.OwnWords.{OwnWords}

-- the first so many words are moved
abbrev pub AreMoved : RamPlace → List OwnWords → List ℕ → List ℕ → ℕ → Type 0
AreMoved place own loaded ram count = (k : ℕ) → k < count →
    IsSomeAnd (entry_of loaded (4 * k)) (λ w. entry_of ram (4 * k) ≡ Some (start_word place own k w))

-- one word more
pub moved_more : (place : RamPlace) (own : List OwnWords) (loaded ram new : List ℕ) (n w moved : ℕ) → AreMoved place own loaded ram n →
    entry_of loaded (4 * n) ≡ Some w → moved ≡ start_word place own n w → moved < 2 ^ 32 → 4 * n + 4 ≤ length ram →
    new ≡ with_entry ram (4 * n) moved → AreMoved place own loaded new (n + 1)
moved_more place own loaded ram new n w moved so_far there is small fits made k below =
    let split : (k < n) ⊎ (k ≡ n) = search arith in
    elim split [
      | inl before ↦ (
          let stays : entry_of (with_entry ram (4 * n) moved) (4 * k) ≡ entry_of ram (4 * k) =
          entry_elsewhere ram (4 * n) (4 * k) moved (record { aligned = omega arith; fits = fits }) (inl (omega (arith, before))) in
          let apart : entry_of new (4 * k) ≡ entry_of ram (4 * k) = ap (λ r. entry_of r (4 * k)) made ∙ stays in
          rw apart (so_far k before)
          )
      | inr last ↦ (
          let here : entry_of new (4 * n) ≡ Some (start_word place own n w) = ap (λ r. entry_of r (4 * n)) made
          ∙ entry_of-with_entry ram (4 * n) moved (record { aligned = omega arith; fits = fits }) small ∙ ap (λ m. Some m) is in
          rw last (rw there here)
          )
    ]
