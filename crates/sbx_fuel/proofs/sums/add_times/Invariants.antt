use Rattle.std.proofs.Common.{◌≡◌, ◌+◌, ◌*◌, ◌^◌, ◌≤◌, drop}
use Rattle.sbx_form.specs.Forms.{AreWithin, add_terms}
use Rattle.arrayvec.specs.ArrayVec.{array_vec_len}
use Rattle.sbx_fuel.proofs.sums.add_times.Given as goal

abbrev pub invariant-loop-term : goal.invariant-loop-term
invariant-loop-term g l = record {
  value : add_terms l.times (drop l.term-index l.form) l.terms.items ≡ add_terms l.times l.form l.initial.terms.items;
  room : array_vec_len l.terms ≤ array_vec_len l.initial.terms + l.term-index;
  small : AreWithin (2 ^ 80 + l.term-index * 2 ^ 63) l.terms.items;
}
