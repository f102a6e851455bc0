use Rattle.std.proofs.lemmas.Grind.{common_steps}
use Rattle.std.proofs.Common.{rules, ◌≡◌, ℕ, ◌<◌, ◌++◌, ℤ, pos, ◌+ℤ◌, List, length, take, drop, get_or, ap, ◌∙◌, sym, arith, to_z, of_z}
use Rattle.std.specs.Int.{w128}
use Rattle.std.proofs.lemmas.Int.{to_z-of_z}
use Rattle.std.proofs.lemmas.List.{get_or_default}
use mir.Val.{SFits}
use Rattle.sbx_form.specs.declared.terms.FormTerm.{FormTerm}
use Rattle.sbx_form.specs.Forms.{keep}
use Rattle.sbx_form.proofs.Places.{meets_removed, misses_here}
use Rattle.sbx_form.proofs.terms.take_at.Goals as goal
use Rattle.sbx_form.proofs.terms.take_at.Goals.{else-place-len-via-then-place-len+else-deref-place, else-place-len-via-else-place-len}

-- where an element's location stands, whatever the default
location_as : (xs ys : List FormTerm) (i : ℕ) (d e : FormTerm) → i < length xs → ys ≡ xs → (get_or ys i e).location ≡ (get_or xs i d).location
location_as xs ys i d e room same = ap (λ (t : FormTerm). t.location) (ap (λ (zs : List FormTerm). get_or zs i e) same ∙ get_or_default xs i e d room)

pub returns-then-deref-place-clause-splits : goal.returns-then-deref-place-clause-splits
returns-then-deref-place-clause-splits g c =
    let f : SFits w128 c.remove.result.coefficient = search rules in
    let room : c.args.place < length c.args.terms.now.items = omega arith in
    let is : c.remove.result ≡ get_or c.args.terms.now.items c.args.place c.remove.result = search rules in
    let same : c.remove.result.location ≡ c.args.location =
    ap (λ (t : FormTerm). t.location) is
    ∙ (sym (location_as c.args.terms.now.items c.deref.result.now c.args.place c.remove.result (let z : FormTerm =
    record { location = 0; coefficient = pos 0 } in z) room c.deref.ensures.0) ∙ c.if-deref-place.true) in
    let e : c.remove.result.coefficient ≡ to_z w128 (of_z w128 c.remove.result.coefficient) = sym (to_z-of_z w128 c.remove.result.coefficient f) in
    λ d. meets_removed c.args.location d c.args.terms.now.items c.remove.new.self.items c.args.place c.remove.result room is same c.remove.ensures.items (c.requires.splits d)
    ∙ ap (λ (z : ℤ). take c.args.place c.remove.new.self.items ++ keep c.args.location (d +ℤ z) (drop c.args.place c.remove.new.self.items)) e

pub returns-else-place-len-clause-splits : goal.returns-else-place-len-clause-splits
returns-else-place-len-clause-splits g c =
    λ d. misses_here c.args.location d c.args.terms.now.items c.args.place
    (λ t h. let s = c.requires.stops t h in elim c.else-place-len.branch [
      | else-place-len-via-then-place-len+else-deref-place w ↦
          (let l = location_as c.args.terms.now.items w.deref.result.now c.args.place t (let z : FormTerm = record { location = 0; coefficient = pos 0 } in z) h w.deref.ensures.0 in
          omega (arith, w.if-deref-place.false))
      | else-place-len-via-else-place-len w ↦ absurd (omega arith)
    ])
    (c.requires.splits d)

pub returns-then-deref-place-clause-small : goal.returns-then-deref-place-clause-small
returns-then-deref-place-clause-small g c = grind (arith, common_steps)
