use Rattle.sbx_range.proofs.Alignments.{quotients_stay_in}
use Rattle.sbx_range.proofs.laws.quotients_stay_in.Goals as goal

pub returns : goal.returns
returns c = quotients_stay_in
