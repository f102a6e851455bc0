use Rattle.std.proofs.Common.{ℕ, arith, below_more}
use Rattle.sbx_pass.specs.Walks.{IsQuietFunction}
use Rattle.sbx_pass.proofs.InOrder.{is_checked, is_first}
use Rattle.sbx_pass.proofs.walk.first_in_functions.Goals as goal

pub returns-in-Some : goal.returns-in-Some
returns-in-Some c =
    is_first c.args.image.now c.requires.keeps c.loop-f.f (let n = c.function_count-f-end.ensures in omega arith) c.in-Some.refusal (c.in-Some.ensures {u = tt}) c.loop-f.invariant

pub loop-f-preserved : goal.loop-f-preserved
loop-f-preserved c = below_more (λ (g : ℕ). IsQuietFunction c.args.image.now g) c.loop-f.f c.loop-f.invariant (c.in_default.ensures {u = tt})

pub returns : goal.returns
returns c = is_checked c.args.image.now (λ g h. c.loop-f.invariant g (let n = c.function_count-f-end.ensures in omega arith))
