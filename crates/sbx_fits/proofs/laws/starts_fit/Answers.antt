use Rattle.sbx_fits.proofs.Branches.{starts_fit}
use Rattle.sbx_fits.proofs.laws.starts_fit.Goals as goal

pub returns : goal.returns
returns c = starts_fit
