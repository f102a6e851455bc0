use Rattle.std.proofs.Common.{◌≡◌, ℤ, take, drop, ◌++◌}
use Rattle.sbx_form.specs.Forms.{add_term}
use Rattle.sbx_form.proofs.terms.place_of.Given as goal

abbrev pub invariant-loop-i : goal.invariant-loop-i
invariant-loop-i l = (c : ℤ) → add_term l.location c l.terms ≡ take l.i l.terms ++ add_term l.location c (drop l.i l.terms)
