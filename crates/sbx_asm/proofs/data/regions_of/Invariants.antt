use Rattle.std.proofs.Common.{◌≡◌, List, drop}
use Rattle.sbx_asm.specs.Kept.{worth, place_at, regions_with}
use Rattle.sbx_asm.specs.Items.{Item}
use Rattle.sbx_asm.specs.Images.{regions_of}
use Rattle.sbx_asm.proofs.data.regions_of.Given as goal

abbrev pub invariant-loop-line : goal.invariant-loop-line
invariant-loop-line l = (before : List Item) × (l.place ≡ place_at before) × (regions_with (worth l.table) l.data before (drop l.line-index l.lines) ≡ regions_of (worth l.table) l.lines)
