use Rattle.std.proofs.Common.{drop}
use Rattle.std.specs.List.{AllByRecursion}
use Rattle.sbx_image.specs.Spelling.{IsTypedRegion}
use Rattle.sbx_run.proofs.limits.tells_regions.Given as goal

-- once the rest is, all are
abbrev pub invariant-loop-region : goal.invariant-loop-region
invariant-loop-region l = AllByRecursion IsTypedRegion (drop l.region-index l.regions) → AllByRecursion IsTypedRegion l.regions
