-- The cells of a first block are its function's params, from %o0 on.
use Rattle.std.proofs.Common.{◌≡◌, ℕ, ◌+◌, ◌≤◌, List, [], ◌∷◌, take, length, refl, arith}
use Rattle.std.specs.Prelude.{slice_index_or}
use Rattle.sbx_image.specs.Cell.{Cell}
use Rattle.sbx_image.specs.Range.{Range}
use Rattle.sbx_rules.specs.Ways.{out_cells}

abbrev pub cell_by : List Range → Range → ℕ → Cell
cell_by rs none n = record { location = 8 + n; range = slice_index_or rs n none }

pub six_cells : (rs : List Range) (none : Range) → length rs ≤ 6
    → take (length rs) (cell_by rs none 0 ∷ cell_by rs none 1 ∷ cell_by rs none 2 ∷ cell_by rs none 3 ∷ cell_by rs none 4 ∷ cell_by rs none 5 ∷ []) ≡ out_cells 8 rs
six_cells [] none few = refl
six_cells (a ∷ []) none few = refl
six_cells (a ∷ b ∷ []) none few = refl
six_cells (a ∷ b ∷ c ∷ []) none few = refl
six_cells (a ∷ b ∷ c ∷ d ∷ []) none few = refl
six_cells (a ∷ b ∷ c ∷ d ∷ e ∷ []) none few = refl
six_cells (a ∷ b ∷ c ∷ d ∷ e ∷ g ∷ []) none few = refl
six_cells (a ∷ b ∷ c ∷ d ∷ e ∷ g ∷ h ∷ rs) none few = absurd (omega arith)
