use Rattle.std.proofs.Common.{[], ◌∷◌, ◌+◌, arith}
use Rattle.std.proofs.lemmas.Grind.{common_steps}
use Rattle.sbx_asm.specs.Items.{each}
use Rattle.sbx_asm.specs.Images.{function_at}
use Rattle.sbx_asm.proofs.Walks.{rest_is, one_more}
use Rattle.sbx_asm.proofs.functions.functions_of.Goals as goal

pub loop-at-preserved : goal.loop-at-preserved
loop-at-preserved c =
    let so_far = c.loop-at.invariant in (
      c.index-lines-at.result ∷ so_far.0,
      c.after-here.ensures so_far.0 so_far.1,
      one_more function_at c.loop-at.functions.items c.push_function.new.functions.items
          (each function_at [] c.args.lines.now) so_far.0 c.args.lines.now c.loop-at.at c.index-lines-at.result _ c.loop-at-test.true c.index-lines-at.is
          (rest_is c.args.lines.now (c.loop-at.at + 1)) (c.in_ok-push_function.ensures so_far.0 so_far.1) so_far.2,
    )

pub returns : goal.returns
returns c = grind (arith, common_steps)
