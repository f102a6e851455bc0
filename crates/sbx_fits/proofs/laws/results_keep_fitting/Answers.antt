use Rattle.sbx_fits.proofs.Results.{results_keep_fitting}
use Rattle.sbx_fits.proofs.laws.results_keep_fitting.Goals as goal

pub returns : goal.returns
returns c = results_keep_fitting
