use Rattle.sbx_range.proofs.Alignments.{loads_stay_in}
use Rattle.sbx_range.proofs.laws.loads_stay_in.Goals as goal

pub returns : goal.returns
returns c = loads_stay_in
