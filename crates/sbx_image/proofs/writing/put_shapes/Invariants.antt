use Rattle.std.proofs.Common.{◌≡◌, ◌++◌, take}
use Rattle.std.specs.List.{flat_map}
use Rattle.sbx_image.specs.Spelling.{shape_text}
use Rattle.sbx_image.proofs.writing.put_shapes.Given as goal

abbrev pub invariant-loop-region : goal.invariant-loop-region
invariant-loop-region l = l.out.items ≡ l.initial.out.items ++ flat_map shape_text (take l.region-index l.region-items)
