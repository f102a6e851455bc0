use Rattle.std.proofs.Common.{◌≡◌, ◌≤◌, ◌+◌, ◌*◌, length, drop}
use Rattle.sbx_parts.specs.Regions.{one_holds, page_rights, placed, placed_from}
use Rattle.sbx_parts.proofs.regions.holds.Given as goal

abbrev pub invariant-loop-region : goal.invariant-loop-region
invariant-loop-region l =
    (one_holds l.low l.high l.writes (placed_from l.start (drop l.region-index l.regions)) ≡ one_holds l.low l.high l.writes (placed l.regions))
    × (0x80000 ≤ l.start) × (l.start + 4096 * length (page_rights (drop l.region-index l.regions)) ≤ 0xC0000)
