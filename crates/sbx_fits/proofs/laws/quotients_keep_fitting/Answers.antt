use Rattle.sbx_fits.proofs.Others.{quotients_keep_fitting}
use Rattle.sbx_fits.proofs.laws.quotients_keep_fitting.Goals as goal

pub returns : goal.returns
returns c = quotients_keep_fitting
