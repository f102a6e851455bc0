use Rattle.sbx_fits.proofs.Memory.{data_keeps_fitting}
use Rattle.sbx_fits.proofs.laws.data_keeps_fitting.Goals as goal

pub returns : goal.returns
returns c = data_keeps_fitting
