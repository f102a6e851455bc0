use Rattle.sbx_range.proofs.Sound.{results_stay_in}
use Rattle.sbx_range.proofs.laws.results_stay_in.Goals as goal

pub returns : goal.returns
returns c = results_stay_in
