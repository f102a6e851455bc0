-- Recursions over lists are tests of all their items.
use Rattle.std.specs.Prelude.{◌≡◌, ◌==◌, ℕ, zero, suc, Bool, true, false, ◌&&◌, not, List, [], ◌∷◌}
use Rattle.std.proofs.Common.{refl, ap}
use Rattle.std.specs.List.{list_all, list_any}
use Rattle.sbx_image.specs.Block.{Block}
use Rattle.sbx_image.specs.Function.{Function}
use Rattle.sbx_image.specs.Cell.{Cell}
use Rattle.sbx_rules.specs.Known.{Known, range_at}
use Rattle.sbx_rules.specs.Rules.{has_cells, has_range, is_writable, lists_badly}

pub all_cells : (d : Known) (cells : List Cell) → has_cells d cells ≡ list_all (λ c. has_range (range_at d c.location) c.range) cells
all_cells d [] = refl
all_cells d (c ∷ cs) = ap (λ b. has_range (range_at d c.location) c.range && b) (all_cells d cs)

-- a block that isn't the first
pub lists_other : (function : Function) (number : ℕ) (block : Block) → (number == 0) ≡ false → lists_badly function number block ≡ list_any (λ c. not (is_writable function c.location)) block.cells
lists_other function zero block e = absurd cc
lists_other function (suc n) block e = refl
