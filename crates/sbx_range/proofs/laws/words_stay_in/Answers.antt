use Rattle.sbx_range.proofs.Kept.{words_stay_in}
use Rattle.sbx_range.proofs.laws.words_stay_in.Goals as goal

pub returns : goal.returns
returns c = words_stay_in
