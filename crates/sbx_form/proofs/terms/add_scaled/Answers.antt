use Rattle.std.proofs.Common.{◌≡◌, ℕ, ◌+◌, ◌*ℤ◌, ◌^◌, ◌≤◌, unsigned_abs, rules, arith, sym, ap, subst, to_z, of_z}
use Rattle.std.specs.Int.{w128}
use Rattle.std.proofs.lemmas.Int.{to_z-of_z}
use mir.Val.{SFits}
use Rattle.sbx_form.specs.Forms.{AreWithin, add_term}
use Rattle.sbx_form.proofs.Bounds.{added_within, within_at}
use Rattle.sbx_form.proofs.terms.add_scaled.Goals as goal

pub add_term-requires : goal.add_term-requires
add_term-requires g c =
    let f : SFits w128 c.scaled.result = search rules in
    let e : to_z w128 (of_z w128 c.scaled.result) ≡ c.scaled.result = to_z-of_z w128 c.scaled.result f in
    (search rules, (search rules, ((λ k t h. (let b = within_at (2 ^ 90) c.args.terms.now.items k t c.requires.small h in omega arith)), rw e (omega (arith, c.scaled.ensures.bound)))))

pub returns-clause-within : goal.returns-clause-within
returns-clause-within g c =
    let f : SFits w128 c.scaled.result = search rules in
    let e : to_z w128 (of_z w128 c.scaled.result) ≡ c.scaled.result = to_z-of_z w128 c.scaled.result f in
    let is = c.add_term.ensures in
    λ m small. subst (AreWithin (m + 2 ^ 64)) (sym is) (rw e (added_within m (2 ^ 64) c.args.term.location c.scaled.result c.args.terms.now.items c.scaled.ensures.bound small))
