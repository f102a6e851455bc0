use Rattle.std.proofs.Common.{◌∙◌, ap}
use Rattle.sbx_image.specs.Regions.{laid}
use Rattle.native_flow.proofs.Laying.{few_laid, laid_at}
use Rattle.native_flow.proofs.data.data_of.Goals as goal

pub returns-clause-few : goal.returns-clause-few
returns-clause-few c =
    few_laid c.args.image.now c.in_ok-bytes.bytes.items c.in_ok-bytes.ensures.0 c.keeps_its_format.ensures.kept
    (c.in_ok-bytes.ensures.1 ∙ ap laid c.regions.ensures.value)

pub returns-clause-data_are : goal.returns-clause-data_are
returns-clause-data_are c a byte e =
    laid_at c.args.image.now c.in_ok-bytes.bytes.items c.in_ok-bytes.ensures.0 a byte
    (c.in_ok-bytes.ensures.1 ∙ ap laid c.regions.ensures.value) e
