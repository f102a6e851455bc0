use Rattle.sbx_asm.proofs.Fitting.{meant_images_fit}
use Rattle.sbx_asm.proofs.laws.meant_images_fit_their_fields.Goals as goal

pub returns : goal.returns
returns c = meant_images_fit
