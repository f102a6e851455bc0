use Rattle.std.proofs.Common.{◌≡◌, ◌++◌, drop, string_bytes}
use Rattle.std.specs.List.{flat_map}
use Rattle.inspect_image.specs.Images.{result_line}
use Rattle.inspect_image.proofs.image.push_results.Given as goal

-- the lines so far and those of what is left are all of them
abbrev pub invariant-loop-range : goal.invariant-loop-range
invariant-loop-range l = string_bytes l.out ++ flat_map result_line (drop l.range-index l.results) ≡ string_bytes l.fn.out ++ flat_map result_line l.results
