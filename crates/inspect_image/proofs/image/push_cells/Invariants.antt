use Rattle.std.proofs.Common.{◌≡◌, ◌++◌, drop, string_bytes}
use Rattle.std.specs.List.{flat_map}
use Rattle.inspect_image.specs.Images.{cell_line}
use Rattle.inspect_image.proofs.image.push_cells.Given as goal

-- the lines so far and those of what is left are all of them
abbrev pub invariant-loop-cell : goal.invariant-loop-cell
invariant-loop-cell l = string_bytes l.out ++ flat_map cell_line (drop l.cell-index l.cells) ≡ string_bytes l.fn.out ++ flat_map cell_line l.cells
