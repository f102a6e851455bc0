use Rattle.std.proofs.Common.{◌≡◌, ◌*◌, ◌^◌, ◌≤◌, drop}
use Rattle.std.specs.Prelude.{◌+ℤ◌, unsigned_abs}
use Rattle.sbx_form.specs.Forms.{least_terms}
use Rattle.sbx_domain.specs.Known.{known}
use Rattle.sbx_domain.specs.Least.{ends_known}
use Rattle.sbx_domain.proofs.lowest.least_of.Given as goal

abbrev pub invariant-loop-term : goal.invariant-loop-term
invariant-loop-term l = record {
  value : l.least +ℤ least_terms (ends_known (known l.start)) (drop l.term-index l.terms) ≡ least_terms (ends_known (known l.start)) l.terms;
  bound : unsigned_abs l.least ≤ l.term-index * 2 ^ 102;
}
