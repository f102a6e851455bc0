-- Lists in the order of a number of each item.
use Rattle.std.specs.Prelude.{ℕ, ◌<◌, List, length, slice_index_or}

abbrev pub Ascend : {X : Type 0} → (X → ℕ) → List X → Type 0
Ascend {X} key xs = (i j : ℕ) (d : X) → i < j → j < length xs →
    key (slice_index_or xs i d) < key (slice_index_or xs j d)
