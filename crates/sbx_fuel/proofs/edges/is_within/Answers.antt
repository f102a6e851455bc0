use Rattle.std.proofs.lemmas.Grind.{common_steps}
use Rattle.std.proofs.Common.{◌≡◌, ◌∙◌, ◌^◌, ℤ, List, ap, sym, subst, pos, arith, rules, true, false, to_z, of_z, Some, Option, map, w64}
use Rattle.std.specs.Prelude.{◌-ℤ◌}
use Rattle.std.specs.Int.{w128}
use Rattle.std.proofs.lemmas.Int.{ints, to_z-of_z}
use mir.Val.{SFits}
use Rattle.sbx_form.specs.declared.terms.FormTerm.{FormTerm}
use Rattle.sbx_form.specs.Forms.{AreWithin}
use Rattle.sbx_form.proofs.Bounds.{wider_bound}
use Rattle.sbx_rules.specs.Known.{range_at}
use Rattle.sbx_fuel.specs.Blocks.{first_of, fuel_of}
use Rattle.sbx_fuel.specs.Least.{is_natural_sum, least_over, negated}
use Rattle.sbx_fuel.proofs.Exact as exact
use Rattle.sbx_fuel.proofs.edges.is_within.Goals as goal

pub least_at_start-requires-clause-small : goal.least_at_start-requires-clause-small
least_at_start-requires-clause-small c =
    subst (AreWithin (2 ^ 70)) (sym c.as_slice-2.ensures.value) (wider_bound (2 ^ 31) (2 ^ 70) c.all_negated-opposites.result.items (omega arith) c.all_negated-opposites.ensures.small)

sum_is : (c : goal.After-is_natural_sum) → c.is_natural_sum.result ≡ is_natural_sum (pos c.args.budget -ℤ c.args.block.now.fuel)
    (least_over (range_at (first_of c.args.function.now c.args.number c.args.block.now)) (map negated (fuel_of c.args.function.now c.args.number c.args.block.now).terms)) (Some (pos 0))
sum_is c =
    let first = first_of c.args.function.now c.args.number c.args.block.now in
    let f : SFits w128 c.budget_left.result = search rules in
    let e : to_z w128 (of_z w128 c.budget_left.result) ≡ c.budget_left.result = to_z-of_z w128 c.budget_left.result f in
    let fits : SFits w64 c.args.block.now.fuel = search rules in
    let d : to_z w64 (of_z w64 c.args.block.now.fuel) ≡ c.args.block.now.fuel = to_z-of_z w64 c.args.block.now.fuel fits in
    let v = c.budget_left.ensures.value in
    let number : to_z w128 (of_z w128 c.budget_left.result) ≡ pos c.args.budget -ℤ c.args.block.now.fuel = omega (arith, ints) in
    let least : c.least_at_start.result ≡ least_over (range_at first) (map negated (fuel_of c.args.function.now c.args.number c.args.block.now).terms) =
    c.least_at_start.ensures.value
    ∙ ap (λ (ts : List FormTerm). least_over (range_at first) ts)
    (c.as_slice-2.ensures.value ∙ (c.all_negated-opposites.ensures.value ∙ ap (λ (ts : List FormTerm). map negated ts) (c.as_slice.ensures.value ∙ c.fuel_terms-terms.ensures.value))) in
    c.is_natural_sum.ensures
    ∙ (ap (λ (z : ℤ). is_natural_sum z c.least_at_start.result (Some (pos 0))) number ∙ ap (λ (o : Option ℤ). is_natural_sum (pos c.args.budget -ℤ c.args.block.now.fuel) o (Some (pos 0))) least)

pub returns-clause-within : goal.returns-clause-within
returns-clause-within c = λ e.
    exact.is_within (first_of c.args.function.now c.args.number c.args.block.now) (fuel_of c.args.function.now c.args.number c.args.block.now) c.args.budget
    c.requires.kept.ranges (record { ascend = c.requires.kept.ascend; nonzero = c.requires.kept.nonzero }) (sym (sum_is c) ∙ e)

pub returns-clause-above : goal.returns-clause-above
returns-clause-above c = λ e h.
    (let t = exact.within_is (first_of c.args.function.now c.args.number c.args.block.now) (fuel_of c.args.function.now c.args.number c.args.block.now) c.args.budget
    c.requires.kept.ranges (record { ascend = c.requires.kept.ascend; nonzero = c.requires.kept.nonzero }) h in
    let s : false ≡ true = sym e ∙ (sum_is c ∙ t) in absurd cc)

pub is_natural_sum-requires-clause-number : goal.is_natural_sum-requires-clause-number
is_natural_sum-requires-clause-number c = grind (arith, common_steps)

pub is_natural_sum-requires-clause-least : goal.is_natural_sum-requires-clause-least
is_natural_sum-requires-clause-least c = grind (arith, common_steps)

pub all_negated-opposites-requires-clause-small : goal.all_negated-opposites-requires-clause-small
all_negated-opposites-requires-clause-small c = grind (arith, common_steps)
