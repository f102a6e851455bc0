use Rattle.std.proofs.Common.{◌≡◌, take}
use Rattle.arrayvec.specs.ArrayVec.{array_vec_len}
use Rattle.sbx_domain.proofs.lin.unpacked.Given as goal

abbrev pub invariant-loop-term : goal.invariant-loop-term
invariant-loop-term g l = record {
  items : l.terms.items ≡ take l.term-index l.kept;
  size : array_vec_len l.terms ≡ l.term-index;
}
