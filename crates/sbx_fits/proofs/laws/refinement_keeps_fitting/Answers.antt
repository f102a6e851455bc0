use Rattle.sbx_fits.proofs.Branches.{refinement_keeps_fitting}
use Rattle.sbx_fits.proofs.laws.refinement_keeps_fitting.Goals as goal

pub returns : goal.returns
returns c = refinement_keeps_fitting
