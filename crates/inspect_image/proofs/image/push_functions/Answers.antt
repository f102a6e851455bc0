use Rattle.std.proofs.lemmas.Grind.{common_steps}
use Rattle.std.proofs.Common.{◌+◌, ap, string_bytes, arith}
use Rattle.inspect_image.specs.Images.{function_text}
use Rattle.inspect_image.proofs.Texts.{numbered_more}
use Rattle.inspect_image.proofs.image.push_functions.Goals as goal

pub loop-function-preserved : goal.loop-function-preserved
loop-function-preserved c = (
  ap (λ n. n + 1) c.loop-function.invariant.0,
  numbered_more (function_text c.args.version) (string_bytes c.loop-function.out)
      (string_bytes c.push_function.new.out) _ c.loop-function.number c.loop-function.function-index c.args.functions.now c.function-item.result
      c.loop-function-test.true c.function-item.is c.in_ok-push_function.ensures c.loop-function.invariant.1,
)

pub overflow_add-number : goal.overflow_add-number
overflow_add-number c = grind (arith, common_steps)

pub returns : goal.returns
returns c = grind (arith, common_steps)
