use Rattle.std.proofs.Common.{◌≡◌, ℕ, ◌+◌, ◌*◌, ◌^◌, ◌≤◌, drop, length}
use Rattle.sbx_form.specs.Forms.{AreWithin, add_terms}
use Rattle.arrayvec.specs.ArrayVec.{array_vec_len}
use Rattle.sbx_form.proofs.terms.add_terms.Given as goal

abbrev pub invariant-loop-term : goal.invariant-loop-term
invariant-loop-term g l = record {
  value : add_terms l.times (drop l.term-index l.more) l.terms.items ≡ add_terms l.times l.more l.initial.terms.items;
  room : array_vec_len l.terms + length l.more ≤ array_vec_len l.initial.terms + length l.more + l.term-index;
  small : AreWithin (2 ^ 80 + l.term-index * 2 ^ 64) l.terms.items;
}
