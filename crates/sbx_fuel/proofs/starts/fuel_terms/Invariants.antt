use Rattle.std.proofs.Common.{◌≡◌, ◌≤◌, ◌^◌, ◌++◌, drop}
use Rattle.arrayvec.specs.ArrayVec.{array_vec_len}
use Rattle.sbx_form.specs.Forms.{AreWithin}
use Rattle.sbx_rules.specs.Ways.{cells_of, counted}
use Rattle.sbx_fuel.proofs.starts.fuel_terms.Given as goal

abbrev pub invariant-loop-term : goal.invariant-loop-term
invariant-loop-term g l = record {
  value : l.terms.items ++ counted (cells_of l.function l.number l.block) (drop l.term-index l.block.terms) ≡ counted (cells_of l.function l.number l.block) l.block.terms;
  few : array_vec_len l.terms ≤ l.term-index;
  small : AreWithin (2 ^ 31) l.terms.items;
}
