use Rattle.std.proofs.Common.{◌≡◌, ◌++◌, drop, string_bytes}
use Rattle.std.specs.List.{flat_map}
use Rattle.inspect_image.specs.Images.{term_line}
use Rattle.inspect_image.proofs.image.push_terms.Given as goal

-- the lines so far and those of what is left are all of them
abbrev pub invariant-loop-term : goal.invariant-loop-term
invariant-loop-term l = string_bytes l.out ++ flat_map term_line (drop l.term-index l.terms) ≡ string_bytes l.fn.out ++ flat_map term_line l.terms
