use Rattle.std.proofs.lemmas.Grind.{common_steps}
use Rattle.std.proofs.Common.{◌≡◌, ℤ, ◌+◌, ◌*◌, ◌^◌, ◌≤◌, List, length, arith, sym, ap, subst, rules, to_z, of_z, unsigned_abs}
use Rattle.std.specs.Int.{w128}
use Rattle.std.proofs.lemmas.Int.{to_z-of_z}
use mir.Val.{SFits}
use Rattle.sbx_form.specs.declared.terms.FormTerm.{FormTerm}
use Rattle.sbx_form.specs.Forms.{AreWithin}
use Rattle.sbx_form.proofs.Bounds.{wider_bound}
use Rattle.sbx_fuel.proofs.Counting.{sums_few, sums_within}
use Rattle.sbx_fuel.proofs.sums.less_form.Goals as goal

pub returns-in-Some-clause-few : goal.returns-in-Some-clause-few
returns-in-Some-clause-few g c =
    let k : ℤ = to_z w128 (of_z w128 c.negated.result.coefficient) in
    let n = ap (λ (ts : List FormTerm). length ts) c.add_times.ensures in
    let m = sums_few k c.as_slice.result.now c.args.terms.now.items in
    let v = ap (λ (ts : List FormTerm). length ts) c.as_slice.ensures.value in
    let f = c.terms-more.ensures.few in
    omega arith

pub returns-in-Some-clause-within : goal.returns-in-Some-clause-within
returns-in-Some-clause-within g c =
    let k : ℤ = to_z w128 (of_z w128 c.negated.result.coefficient) in
    let fits : SFits w128 c.negated.result.coefficient = search rules in
    let e : k ≡ c.negated.result.coefficient = to_z-of_z w128 c.negated.result.coefficient fits in
    let small : unsigned_abs k ≤ 2 ^ 31 = subst (λ (z : ℤ). unsigned_abs z ≤ 2 ^ 31) (sym e) c.negated.ensures.small in
    let form = c.as_slice.result.now in
    let small_form : AreWithin (2 ^ 32) form = subst (AreWithin (2 ^ 32)) (sym c.as_slice.ensures.value) c.terms-more.ensures.small in
    let v = ap (λ (ts : List FormTerm). length ts) c.as_slice.ensures.value in
    let f = c.terms-more.ensures.few in
    λ m h. subst (AreWithin (m + 2 ^ 66)) (sym c.add_times.ensures)
    (wider_bound (m + length form * 2 ^ 63) (m + 2 ^ 66) _ (omega arith) (sums_within k form c.args.terms.now.items m small small_form h))

pub returns-in_default-clause-within : goal.returns-in_default-clause-within
returns-in_default-clause-within g c = λ m h. wider_bound m (m + 2 ^ 66) c.args.terms.now.items (omega arith) h

pub returns-in-Some-clause-value : goal.returns-in-Some-clause-value
returns-in-Some-clause-value g c = search rules

pub add_times-requires : goal.add_times-requires
add_times-requires g c = (
  search rules,
  (grind (arith, common_steps), (grind (arith, common_steps), (c.requires.small, (grind (arith, common_steps), grind (arith, common_steps))))),
)
