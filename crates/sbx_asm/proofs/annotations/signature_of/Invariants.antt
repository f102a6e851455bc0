use Rattle.std.proofs.Common.{◌≡◌, ◌++◌, drop, get_or}
use Rattle.std.specs.List.{flat_map}
use Rattle.sbx_asm.specs.Items.{params, results, depths}
use Rattle.sbx_asm.proofs.Firsts.{first_of}
use Rattle.sbx_asm.proofs.annotations.signature_of.Given as goal

abbrev pub invariant-loop-line : goal.invariant-loop-line
invariant-loop-line l =
    (l.params.items ++ flat_map params (drop l.line-index l.lines) ≡ flat_map params l.lines)
    × (l.results.items ++ flat_map results (drop l.line-index l.lines) ≡ flat_map results l.lines)
    × (first_of 0 l.depth (flat_map depths (drop l.line-index l.lines)) ≡ get_or (flat_map depths l.lines) 0 0)
