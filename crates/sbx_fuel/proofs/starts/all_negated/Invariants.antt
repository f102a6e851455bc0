use Rattle.std.proofs.Common.{◌≡◌, map, take}
use Rattle.arrayvec.specs.ArrayVec.{array_vec_len}
use Rattle.sbx_fuel.specs.Least.{negated}
use Rattle.sbx_fuel.proofs.starts.all_negated.Given as goal

abbrev pub invariant-loop-term : goal.invariant-loop-term
invariant-loop-term l = record {
  value : l.opposites.items ≡ map negated (take l.term-index l.terms);
  size : array_vec_len l.opposites ≡ l.term-index;
}
