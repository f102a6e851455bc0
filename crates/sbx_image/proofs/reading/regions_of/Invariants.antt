use Rattle.std.proofs.Common.{◌≡◌, drop}
use Rattle.sbx_image.specs.Reading.{regions_at}
use Rattle.sbx_image.proofs.Lengths.{behind_front}
use Rattle.sbx_image.proofs.reading.regions_of.Given as goal

abbrev pub invariant-loop-shape : goal.invariant-loop-shape
invariant-loop-shape l = behind_front l.regions.items (regions_at (drop l.shape-index l.shapes) l.rest) ≡ regions_at l.shapes l.bytes
