use Rattle.std.proofs.Common.{◌≡◌, take}
use Rattle.std.specs.List.{flat_map}
use Rattle.flat_plain.specs.Shows.{region_cells}
use Rattle.flat_plain.proofs.memory.cells_of.Given as goal

abbrev pub invariant-loop-region : goal.invariant-loop-region
invariant-loop-region l = l.cells.items ≡ flat_map region_cells (take l.region-index l.regions)
