-- A table that is written word by word.
use Rattle.std.proofs.Common.{◌≡◌, ℕ, ◌+◌, ◌<◌, ◌⊎◌, inl, inr, List, length, slice_index, slice_set, sym, ap, ◌∙◌, arith}
use Rattle.std.proofs.lemmas.List.{get_or-set_same, get_or-set_other, length-set}

-- one more word of the function's
pub one_more : (f : ℕ → ℕ) (xs : List ℕ) (k v : ℕ) → k < length xs → ((j : ℕ) → j < k → slice_index xs j ≡ f j) → v ≡ f k → (j : ℕ) → j < k + 1 → slice_index (slice_set xs k v) j ≡ f j
one_more f xs k v there before is j less =
    let split : (j < k) ⊎ (j ≡ k) = search arith in
    elim split [
      | inl small ↦ get_or-set_other xs k j v 0 (omega arith) ∙ before j small
      | inr same ↦ ap (slice_index (slice_set xs k v)) same ∙ get_or-set_same xs k v 0 there ∙ is ∙ ap f (sym same)
    ]

pub same_size : (xs : List ℕ) (k v n : ℕ) → length xs ≡ n → length (slice_set xs k v) ≡ n
same_size xs k v n is = length-set xs k v ∙ is
