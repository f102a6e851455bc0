use Rattle.std.proofs.Common.{◌≡◌, ◌≤◌, ◌+◌, ◌*◌, ◌++◌, length, drop, string_bytes}
use Rattle.std.specs.List.{flat_map}
use Rattle.sbx_image.specs.Regions.{page_rights, placed, placed_from}
use Rattle.inspect_image.specs.Images.{region_lines}
use Rattle.inspect_image.proofs.image.push_each_region.Given as goal

-- the lines so far and those of the regions that are left are all of them, and the pages of those have room
abbrev pub invariant-loop-region : goal.invariant-loop-region
invariant-loop-region l =
    (string_bytes l.out ++ flat_map region_lines (placed_from l.start (drop l.region-index l.regions)) ≡ string_bytes l.fn.out ++ flat_map region_lines (placed l.regions))
    × (0x80000 ≤ l.start) × (l.start + 4096 * length (page_rights (drop l.region-index l.regions)) ≤ 0xC0000)
