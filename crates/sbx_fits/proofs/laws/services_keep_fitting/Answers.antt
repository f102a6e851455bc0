use Rattle.sbx_fits.proofs.Branches.{services_keep_fitting}
use Rattle.sbx_fits.proofs.laws.services_keep_fitting.Goals as goal

pub returns : goal.returns
returns c = services_keep_fitting
