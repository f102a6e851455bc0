use Rattle.std.proofs.Common.{◌≡◌, ◌≤◌, ◌+◌, ◌*◌, length, drop}
use Rattle.std.specs.Prelude.{slice_get}
use Rattle.sbx_parts.specs.Regions.{page_rights, placed_from, start_in, start_of}
use Rattle.sbx_parts.proofs.regions.start_of.Given as goal

abbrev pub invariant-loop-region : goal.invariant-loop-region
invariant-loop-region l =
    (start_in (slice_get (placed_from l.start (drop l.region-index l.regions)) l.before) ≡ start_of l.regions l.index)
    × (0x80000 ≤ l.start) × (l.start + 4096 * length (page_rights (drop l.region-index l.regions)) ≤ 0xC0000)
