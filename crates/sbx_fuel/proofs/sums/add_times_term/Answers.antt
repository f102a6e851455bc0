use Rattle.std.proofs.lemmas.Grind.{common_steps}
use Rattle.std.proofs.Common.{◌≡◌, ◌^◌, rules, arith, to_z, of_z}
use Rattle.std.specs.Int.{w128}
use Rattle.std.proofs.lemmas.Int.{to_z-of_z}
use mir.Val.{SFits}
use Rattle.sbx_form.proofs.Bounds.{within_at}
use Rattle.sbx_fuel.proofs.sums.add_times_term.Goals as goal

pub add_term-requires : goal.add_term-requires
add_term-requires g c =
    let f : SFits w128 c.product.result = search rules in
    let e : to_z w128 (of_z w128 c.product.result) ≡ c.product.result = to_z-of_z w128 c.product.result f in
    (search rules, (search rules, ((λ k t h. (let b = within_at (2 ^ 90) c.args.terms.now.items k t c.requires.small h in omega arith)), rw e (omega (arith, c.product.ensures.bound)))))

pub product-requires-clause-small : goal.product-requires-clause-small
product-requires-clause-small g c = grind (arith, common_steps)

pub product-requires-clause-small_times : goal.product-requires-clause-small_times
product-requires-clause-small_times g c = grind (arith, common_steps)
