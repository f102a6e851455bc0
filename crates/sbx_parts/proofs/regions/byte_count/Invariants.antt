use Rattle.std.proofs.Common.{◌≡◌, ◌+◌, drop}
use Rattle.sbx_parts.specs.Regions.{byte_count}
use Rattle.sbx_parts.proofs.regions.byte_count.Given as goal

abbrev pub invariant-loop-region : goal.invariant-loop-region
invariant-loop-region l = l.count + byte_count (drop l.region-index l.regions) ≡ byte_count l.regions
