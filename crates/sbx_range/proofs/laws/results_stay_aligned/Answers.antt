use Rattle.sbx_range.proofs.Alignments.{results_stay_aligned}
use Rattle.sbx_range.proofs.laws.results_stay_aligned.Goals as goal

pub returns : goal.returns
returns c = results_stay_aligned
