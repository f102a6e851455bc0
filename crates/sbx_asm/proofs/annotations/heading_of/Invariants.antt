use Rattle.std.proofs.Common.{◌≡◌, drop, get_or}
use Rattle.sbx_asm.proofs.Views.{version_with}
use Rattle.std.specs.List.{flat_map, list_any}
use Rattle.sbx_asm.specs.Items.{services, stacks, depths, has, is_region}
use Rattle.sbx_asm.proofs.Firsts.{first_of, later}
use Rattle.sbx_asm.proofs.annotations.heading_of.Given as goal

abbrev pub invariant-loop-line : goal.invariant-loop-line
invariant-loop-line l =
    (later l.version (list_any (has depths) (drop l.line-index l.lines)) (list_any is_region (drop l.line-index l.lines)) ≡ version_with (list_any (has depths) l.lines) (list_any is_region l.lines))
    × (first_of (record { 0 = 0 }) l.services (flat_map services (drop l.line-index l.lines)) ≡ get_or (flat_map services l.lines) 0 (record { 0 = 0 }))
    × (first_of 1 l.stack (flat_map stacks (drop l.line-index l.lines)) ≡ get_or (flat_map stacks l.lines) 0 1)
