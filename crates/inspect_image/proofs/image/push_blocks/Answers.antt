use Rattle.std.proofs.lemmas.Grind.{common_steps}
use Rattle.std.proofs.Common.{◌+◌, ap, string_bytes, arith}
use Rattle.inspect_image.specs.Images.{block_text}
use Rattle.inspect_image.proofs.Texts.{numbered_more}
use Rattle.inspect_image.proofs.image.push_blocks.Goals as goal

pub loop-block-preserved : goal.loop-block-preserved
loop-block-preserved c = (
  ap (λ n. n + 1) c.loop-block.invariant.0,
  numbered_more (block_text c.args.function) (string_bytes c.loop-block.out) (string_bytes c.push_numbered.new.out) _ c.loop-block.number c.loop-block.block-index c.args.blocks.now c.block-item.result
      c.loop-block-test.true c.block-item.is c.in_ok-push_numbered.ensures c.loop-block.invariant.1,
)

pub returns : goal.returns
returns c = grind (arith, common_steps)

pub overflow_add-number : goal.overflow_add-number
overflow_add-number c = grind (arith, common_steps)
