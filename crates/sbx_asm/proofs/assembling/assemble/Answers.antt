use Rattle.std.proofs.Common.{ap, ◌∙◌}
use Rattle.sbx_asm.specs.Items.{items_of}
use Rattle.sbx_asm.specs.Images.{Gives, source_image}
use Rattle.sbx_asm.proofs.Wholeness.{told_of_the_whole}
use Rattle.sbx_asm.proofs.assembling.assemble.Goals as goal

pub returns : goal.returns
returns c =
    let exact : Gives c.image_of.result (source_image c.args.source.now) = c.image_of.ensures c.args.source.now (c.as_slice.ensures.value ∙ c.in_ok-lines.ensures ∙ ap items_of c.in_ok-text.ensures) in
    record { exact = exact; whole = told_of_the_whole c.args.source.now c.image_of.result exact }
