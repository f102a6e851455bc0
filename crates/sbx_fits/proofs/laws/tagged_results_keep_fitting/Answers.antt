use Rattle.sbx_fits.proofs.Others.{tagged_results_keep_fitting}
use Rattle.sbx_fits.proofs.laws.tagged_results_keep_fitting.Goals as goal

pub returns : goal.returns
returns c = tagged_results_keep_fitting
