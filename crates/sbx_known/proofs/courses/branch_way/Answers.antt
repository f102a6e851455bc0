use Rattle.std.proofs.Common.{List, sym, ap, ◌∙◌, subst}
use Rattle.sbx_image.specs.Block.{Block}
use Rattle.sbx_image.specs.Function.{Function}
use Rattle.sbx_known.specs.Sorted.{Ascend}
use Rattle.sbx_known.proofs.InOrder.{blocks_ascend}
use Rattle.sbx_known.proofs.courses.branch_way.Goals as goal

pub find_block-requires : goal.find_block-requires
find_block-requires c = subst (λ (bs : List Block). Ascend (λ (b : Block). b.address) bs) (sym (c.as_slice.ensures ∙ ap (λ (f : Function). f.blocks) c.function_at.ensures.value))
    (blocks_ascend c.args.image.now c.requires.keeps c.args.function c.requires.place.function)
