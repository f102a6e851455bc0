use Rattle.std.proofs.Common.{◌<◌, ℕ, Option, ap, subst, length, arith}
use Rattle.std.specs.Prelude.{IfSome}
use Rattle.sbx_image.specs.Function.{Function}
use Rattle.sbx_known.proofs.Limits.{function_limited}
use Rattle.sbx_known.proofs.spot.budget_of_called.Goals as goal

pub returns-in-Some-clause-bound : goal.returns-in-Some-clause-bound
returns-in-Some-clause-bound c =
    let within = subst (λ (o : Option ℕ). IfSome o (λ g. g < length c.args.image.now.functions)) c.in-Some.is c.requires.called_is in
    let most = (function_limited c.args.image.now c.requires.keeps c.in-Some.callee within).budget in
    let same = ap (λ (f : Function). f.budget) c.function_at.ensures.value in
    omega (arith, most, same)
