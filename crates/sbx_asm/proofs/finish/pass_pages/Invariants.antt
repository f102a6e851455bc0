use Rattle.std.proofs.Common.{◌≡◌, ◌≤◌, ◌+◌, length, drop}
use Rattle.sbx_parts.specs.Regions.{page_rights}
use Rattle.sbx_asm.proofs.finish.pass_pages.Given as goal

-- what is left for the regions that are still to come
abbrev pub invariant-loop-region : goal.invariant-loop-region
invariant-loop-region l = (l.left ≤ 64) × (length (page_rights (drop l.region-index l.regions)) + 64 ≡ length (page_rights l.regions) + l.left)
