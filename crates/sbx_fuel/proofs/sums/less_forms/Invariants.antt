use Rattle.std.proofs.Common.{◌≡◌, ◌+◌, ◌*◌, ◌^◌, ◌≤◌, drop}
use Rattle.sbx_form.specs.Forms.{AreWithin}
use Rattle.sbx_rules.specs.Known.{known}
use Rattle.arrayvec.specs.ArrayVec.{array_vec_len}
use Rattle.sbx_fuel.specs.Margins.{start_terms}
use Rattle.sbx_fuel.proofs.sums.less_forms.Given as goal

abbrev pub invariant-loop-term : goal.invariant-loop-term
invariant-loop-term g l = record {
  value : start_terms (known l.now) (drop l.term-index l.next) l.terms.items ≡ start_terms (known l.now) l.next l.initial.terms.items;
  room : array_vec_len l.terms ≤ array_vec_len l.initial.terms + l.term-index * 8;
  small : AreWithin (2 ^ 31 + l.term-index * 2 ^ 66) l.terms.items;
}
