use Rattle.std.proofs.lemmas.Grind.{common_steps}
use Rattle.std.proofs.Common.{rules, arith, ◌^◌, ◌*ℤ◌, ◌≤◌, unsigned_abs, FitsSigned}
use Rattle.std.specs.Int.{w128}
use Rattle.std.proofs.lemmas.Int.{fits_signed_mul, to_z-of_z}
use Rattle.sbx_domain.proofs.Products.{product_within}
use Rattle.sbx_domain.proofs.lin.scaled.Goals as goal

pub overflow_mul-result : goal.overflow_mul-result
overflow_mul-result c = search rules

pub returns-clause-bound : goal.returns-clause-bound
returns-clause-bound c =
    let x = c.from.result in
    let y = c.from-2.result in
    let low : unsigned_abs x ≤ 2 ^ 31 = search rules in
    let high : unsigned_abs y ≤ 2 ^ 40 = search rules in
    let fits : FitsSigned w128 (x *ℤ y) = fits_signed_mul w128 x y (2 ^ 31) (2 ^ 40) low high (omega arith) in
    let fx : FitsSigned w128 x = search rules in
    let fy : FitsSigned w128 y = search rules in
    let bound : unsigned_abs (x *ℤ y) ≤ 2 ^ 72 = product_within x y low high in
    rw (to_z-of_z w128 x fx, to_z-of_z w128 y fy, to_z-of_z w128 (x *ℤ y) fits) (bound)

pub returns-clause-value : goal.returns-clause-value
returns-clause-value c = grind (arith, common_steps)
