use Rattle.std.proofs.lemmas.Grind.{common_steps}
use Rattle.std.proofs.Common.{◌≡◌, ◌∙◌, ℤ, List, ap, sym, pos, arith, rules, true, false, to_z, of_z, Option, w64}
use Rattle.std.specs.Prelude.{◌-ℤ◌}
use Rattle.std.specs.Int.{w128}
use Rattle.std.proofs.lemmas.Int.{ints, to_z-of_z}
use mir.Val.{SFits}
use Rattle.sbx_form.specs.declared.terms.FormTerm.{FormTerm}
use Rattle.sbx_rules.specs.Known.{known, range_at}
use Rattle.sbx_fuel.specs.Blocks.{first_of, fuel_of}
use Rattle.sbx_fuel.specs.Least.{is_natural_sum, least_over, taken_by}
use Rattle.sbx_fuel.specs.Margins.{start_terms}
use Rattle.sbx_fuel.proofs.Exact as exact
use Rattle.sbx_fuel.proofs.edges.lasts_for.Goals as goal

sum_is : (c : goal.After-is_natural_sum) → c.is_natural_sum.result ≡ is_natural_sum ((c.args.block.now.fuel -ℤ c.args.next.now.fuel) -ℤ pos c.args.weight)
    (least_over (range_at (first_of c.args.function.now c.args.number c.args.block.now))
    (start_terms (known c.args.now.now) (fuel_of c.args.function.now c.args.target c.args.next.now).terms (fuel_of c.args.function.now c.args.number c.args.block.now).terms))
    (taken_by (known c.args.now.now) (fuel_of c.args.function.now c.args.target c.args.next.now).terms)
sum_is c =
    let first = first_of c.args.function.now c.args.number c.args.block.now in
    let here = known c.args.now.now in
    let own = (fuel_of c.args.function.now c.args.number c.args.block.now).terms in
    let other = (fuel_of c.args.function.now c.args.target c.args.next.now).terms in
    let before : ℤ = (c.args.block.now.fuel -ℤ c.args.next.now.fuel) -ℤ pos c.args.weight in
    let f : SFits w128 c.constant_left.result = search rules in
    let e : to_z w128 (of_z w128 c.constant_left.result) ≡ c.constant_left.result = to_z-of_z w128 c.constant_left.result f in
    let fits : SFits w64 c.args.block.now.fuel = search rules in
    let d : to_z w64 (of_z w64 c.args.block.now.fuel) ≡ c.args.block.now.fuel = to_z-of_z w64 c.args.block.now.fuel fits in
    let fits_next : SFits w64 c.args.next.now.fuel = search rules in
    let n : to_z w64 (of_z w64 c.args.next.now.fuel) ≡ c.args.next.now.fuel = to_z-of_z w64 c.args.next.now.fuel fits_next in
    let v = c.constant_left.ensures.value in
    let number : to_z w128 (of_z w128 c.constant_left.result) ≡ before = omega (arith, ints) in
    let items : c.as_slice.result.now ≡ other = c.as_slice.ensures.value ∙ c.fuel_terms-other.ensures.value in
    let others : c.as_slice-2.result.now ≡ other = c.as_slice-2.ensures.value ∙ c.fuel_terms-other.ensures.value in
    let least : c.least_left.result ≡ least_over (range_at first) (start_terms here other own) =
    c.least_left.ensures.value ∙ ap (λ (ts : List FormTerm). least_over (range_at first) (start_terms here ts own)) items in
    let taken : c.taken_by.result ≡ taken_by here other = c.taken_by.ensures.value ∙ ap (λ (ts : List FormTerm). taken_by here ts) others in
    c.is_natural_sum.ensures
    ∙ (ap (λ (z : ℤ). is_natural_sum z c.least_left.result c.taken_by.result) number
    ∙ (ap (λ (o : Option ℤ). is_natural_sum before o c.taken_by.result) least
    ∙ ap (λ (o : Option ℤ). is_natural_sum before (least_over (range_at first) (start_terms here other own)) o) taken))

pub returns-clause-paid : goal.returns-clause-paid
returns-clause-paid c = λ e.
    exact.is_paid (first_of c.args.function.now c.args.number c.args.block.now) (fuel_of c.args.function.now c.args.number c.args.block.now) c.args.weight
    (known c.args.now.now) (fuel_of c.args.function.now c.args.target c.args.next.now) c.requires.kept.ranges c.requires.some
    (record { ascend = c.requires.kept.ascend; nonzero = c.requires.kept.nonzero }) (record { ascend = c.requires.next_kept.ascend; nonzero = c.requires.next_kept.nonzero })
    (sym (sum_is c) ∙ e)

pub returns-clause-unpaid : goal.returns-clause-unpaid
returns-clause-unpaid c = λ e h.
    (let t = exact.paid_is (first_of c.args.function.now c.args.number c.args.block.now) (fuel_of c.args.function.now c.args.number c.args.block.now) c.args.weight
    (known c.args.now.now) (fuel_of c.args.function.now c.args.target c.args.next.now) c.requires.kept.ranges c.requires.some
    (record { ascend = c.requires.kept.ascend; nonzero = c.requires.kept.nonzero }) (record { ascend = c.requires.next_kept.ascend; nonzero = c.requires.next_kept.nonzero }) h in
    let s : false ≡ true = sym e ∙ (sum_is c ∙ t) in absurd cc)

pub is_natural_sum-requires-clause-number : goal.is_natural_sum-requires-clause-number
is_natural_sum-requires-clause-number c = grind (arith, common_steps)

pub is_natural_sum-requires-clause-least : goal.is_natural_sum-requires-clause-least
is_natural_sum-requires-clause-least c = grind (arith, common_steps)

pub is_natural_sum-requires-clause-other : goal.is_natural_sum-requires-clause-other
is_natural_sum-requires-clause-other c = grind (arith, common_steps)

pub taken_by-requires-clause-small : goal.taken_by-requires-clause-small
taken_by-requires-clause-small c = grind (arith, common_steps)
