use Rattle.std.proofs.Common.{◌≡◌, ◌++◌, drop, pos, get_or}
use Rattle.std.specs.List.{flat_map}
use Rattle.sbx_asm.specs.Items.{fuels, cells, terms}
use Rattle.sbx_asm.proofs.Firsts.{first_of}
use Rattle.sbx_asm.proofs.annotations.block_with.Given as goal

abbrev pub invariant-loop-line : goal.invariant-loop-line
invariant-loop-line l =
    (first_of (pos 0) l.fuel (flat_map fuels (drop l.line-index l.lines)) ≡ get_or (flat_map fuels l.lines) 0 (pos 0))
    × (l.cells.items ++ flat_map cells (drop l.line-index l.lines) ≡ flat_map cells l.lines)
    × (l.terms.items ++ flat_map terms (drop l.line-index l.lines) ≡ flat_map terms l.lines)
