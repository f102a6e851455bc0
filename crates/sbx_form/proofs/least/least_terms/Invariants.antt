use Rattle.std.proofs.Common.{◌≡◌, ◌≤◌, ◌*◌, ◌^◌, drop}
use Rattle.std.specs.Prelude.{◌+ℤ◌, unsigned_abs}
use Rattle.sbx_form.specs.Forms.{least_terms, ends_of}
use Rattle.sbx_form.proofs.least.least_terms.Given as goal

abbrev pub invariant-loop-term : goal.invariant-loop-term
invariant-loop-term l =
    record {
      value : l.least +ℤ least_terms (ends_of l.ranges) (drop l.term-index l.terms) ≡ least_terms (ends_of l.ranges) l.terms;
      bound : unsigned_abs l.least ≤ l.term-index * 2 ^ 102;
    }
