-- Entries by parts of sixteen locations, of which those that have entries are marked.
use Rattle.std.specs.Prelude.{◌≡◌, ℕ, ◌/◌, ◌-◌, ◌<◌, ◌≤◌, Bool, false, List, ◌++◌, length, replicate, Option, None, slice_index_or}

-- from one location on and below another, nothing stands in a part without a mark
abbrev pub AreMarked : {A : Type 0} → ℕ → ℕ → List Bool → List (Option A) → Type 0
AreMarked from to marks xs = (k : ℕ) → from ≤ k → k < to → slice_index_or marks (k / 16) false ≡ false →
    slice_index_or xs k None ≡ None

-- Entries of all locations, where nothing stands past the end of a list.
unfoldable pub padded : {A : Type 0} → List (Option A) → List (Option A)
padded xs = xs ++ replicate (1040 - length xs) None
