use Rattle.std.proofs.lemmas.Grind.{common_steps}
use Rattle.std.proofs.Common.{◌+◌, ap, arith}
use Rattle.inspect_run.proofs.Found.{one_more}
use Rattle.inspect_run.proofs.places.function_from.Goals as goal

pub loop-function-preserved : goal.loop-function-preserved
loop-function-preserved c = (
  ap (λ n. n + 1) c.loop-function.invariant.0,
  one_more c.loop-function.number c.loop-function.function-index c.args.address c.loop-function.place c.nearer-place.result _ c.args.functions.now c.function-item.result
      c.loop-function-test.true c.function-item.is c.nearer-place.ensures c.loop-function.invariant.1,
)

pub returns : goal.returns
returns c = grind (arith, common_steps)
