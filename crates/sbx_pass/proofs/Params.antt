-- The cells of a first block are its function's params, from %o0 on.
use Rattle.std.proofs.Common.{◌≡◌, ℕ, zero, suc, List, [], ◌∷◌, refl, ap, arith}
use Rattle.std.specs.Prelude.{◌&&◌}
use Rattle.sbx_image.specs.Range.{Range}
use Rattle.sbx_image.specs.Parts.{Parts}
use Rattle.sbx_rules.specs.Known.{Known, range_at}
use Rattle.sbx_image.specs.Order.{function_at}
use Rattle.sbx_rules.specs.Rules.{has_cells, has_outs, has_range}
use Rattle.sbx_rules.specs.Ways.{cells_at, out_cells}

pub outs_are_cells : (l : ℕ) (rs : List Range) (d : Known) → has_outs l rs d ≡ has_cells d (out_cells l rs)
outs_are_cells l [] d = refl
outs_are_cells l (r ∷ rs) d = ap (λ b. has_range (range_at d l) r && b) (outs_are_cells (suc l) rs d)

pub cells_first : (parts : Parts) (f b : ℕ) → b ≡ 0 → cells_at parts f b ≡ out_cells 8 (function_at parts f).params
cells_first parts f zero e = refl
cells_first parts f (suc b) e = absurd (omega arith)
