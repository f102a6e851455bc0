use Rattle.sbx_range.proofs.Alignments.{tagged_results_stay_in}
use Rattle.sbx_range.proofs.laws.tagged_results_stay_in.Goals as goal

pub returns : goal.returns
returns c = tagged_results_stay_in
