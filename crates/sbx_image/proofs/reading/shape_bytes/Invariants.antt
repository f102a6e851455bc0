use Rattle.std.proofs.Common.{◌≡◌, ◌+◌, drop}
use Rattle.sbx_image.specs.Reading.{shape_bytes}
use Rattle.sbx_image.proofs.reading.shape_bytes.Given as goal

abbrev pub invariant-loop-shape : goal.invariant-loop-shape
invariant-loop-shape l = l.count + shape_bytes (drop l.shape-index l.shapes) ≡ shape_bytes l.shapes
