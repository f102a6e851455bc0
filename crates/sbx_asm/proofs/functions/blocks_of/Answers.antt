use Rattle.std.proofs.Common.{◌+◌, List, ◌∷◌, ◌++◌, [], ap, ◌∙◌, arith}
use Rattle.std.proofs.lemmas.Grind.{common_steps}
use Rattle.sbx_image.specs.Block.{Block}
use Rattle.sbx_asm.specs.Items.{each, up_to, ends_block}
use Rattle.sbx_asm.specs.Addresses.{code_address}
use Rattle.sbx_asm.specs.Images.{block_with, block_at}
use Rattle.sbx_asm.proofs.Walks.{rest_is, one_more}
use Rattle.sbx_asm.proofs.functions.blocks_of.Goals as goal

pub loop-at-init : goal.loop-at-init
loop-at-init c = λ before at. (
  c.args.first.now ∷ before,
  c.after-here.ensures before at,
  ap (λ (blocks : List Block). blocks ++ each block_at (c.args.first.now ∷ before) c.args.own.now)
      (c.in_ok-push_block.ensures
      ∙ ap (λ (blocks : List Block). blocks ++ block_with c.args.place.next_word (up_to ends_block c.args.own.now) ∷ []) c.new-blocks.ensures.items
      ∙ (λ j. block_with (at j).next_word (up_to ends_block c.args.own.now) ∷ [])),
)

pub loop-at-preserved : goal.loop-at-preserved
loop-at-preserved c = λ before at.
    let so_far = c.loop-at.invariant before at in (
      c.index-own-at.result ∷ so_far.0,
      c.after-here-in-loop-at.ensures so_far.0 so_far.1,
      one_more block_at c.loop-at.blocks.items c.push_named_block.new.blocks.items
          (block_with (code_address before) (up_to ends_block c.args.own.now)
          ∷ each block_at (c.args.first.now ∷ before) c.args.own.now) so_far.0 c.args.own.now c.loop-at.at c.index-own-at.result _
          c.loop-at-test.true c.index-own-at.is (rest_is c.args.own.now (c.loop-at.at + 1)) (c.in_ok-push_named_block.ensures so_far.0 so_far.1) so_far.2,
    )

pub returns : goal.returns
returns c = grind (arith, common_steps)
