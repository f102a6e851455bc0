use Rattle.sbx_fits.proofs.Others.{moves_keep_fitting}
use Rattle.sbx_fits.proofs.laws.moves_keep_fitting.Goals as goal

pub returns : goal.returns
returns c = moves_keep_fitting
