use Rattle.std.proofs.lemmas.Grind.{common_steps}
use Rattle.std.proofs.Common.{◌≡◌, ◌*ℤ◌, ◌^◌, arith, to_z, of_z}
use Rattle.std.specs.Int.{w128}
use Rattle.std.proofs.lemmas.Int.{fits_signed_mul, to_z-of_z}
use mir.Val.{SFits}
use Rattle.sbx_fuel.proofs.Counting.{product_small}
use Rattle.sbx_fuel.proofs.sums.product.Goals as goal

pub returns-clause-value : goal.returns-clause-value
returns-clause-value c =
    let a : to_z w128 (of_z w128 c.args.times) ≡ c.args.times = to_z-of_z w128 c.args.times c.ranges.times in
    let b : to_z w128 (of_z w128 c.args.number) ≡ c.args.number = to_z-of_z w128 c.args.number c.ranges.number in
    let f : SFits w128 (c.args.times *ℤ c.args.number) = fits_signed_mul w128 c.args.times c.args.number (2 ^ 31) (2 ^ 40) c.requires.small_times c.requires.small (omega arith) in
    rw (a, b) (to_z-of_z w128 (c.args.times *ℤ c.args.number) f)

pub returns-clause-bound : goal.returns-clause-bound
returns-clause-bound c =
    let a : to_z w128 (of_z w128 c.args.times) ≡ c.args.times = to_z-of_z w128 c.args.times c.ranges.times in
    let b : to_z w128 (of_z w128 c.args.number) ≡ c.args.number = to_z-of_z w128 c.args.number c.ranges.number in
    let f : SFits w128 (c.args.times *ℤ c.args.number) = fits_signed_mul w128 c.args.times c.args.number (2 ^ 31) (2 ^ 40) c.requires.small_times c.requires.small (omega arith) in
    let e : to_z w128 (of_z w128 (c.args.times *ℤ c.args.number)) ≡ c.args.times *ℤ c.args.number = to_z-of_z w128 (c.args.times *ℤ c.args.number) f in
    rw (a, b, e) (product_small c.args.times c.args.number c.requires.small_times c.requires.small)

pub overflow_mul-result : goal.overflow_mul-result
overflow_mul-result c = grind (arith, common_steps)
