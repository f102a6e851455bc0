use Rattle.std.proofs.Common.{◌≡◌, ◌++◌, drop}
use Rattle.std.specs.Prelude.{replicate}
use Rattle.sbx_image.specs.Regions.{laid}
use Rattle.native_flow.proofs.data.bytes_of.Given as goal

abbrev pub invariant-loop-region : goal.invariant-loop-region
invariant-loop-region l = (l.bytes.items ++ replicate l.owed 0) ++ laid (drop l.region-index l.regions) ≡ laid l.regions
