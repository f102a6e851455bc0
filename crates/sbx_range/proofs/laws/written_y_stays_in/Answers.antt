use Rattle.sbx_range.proofs.Alignments.{written_y_stays_in}
use Rattle.sbx_range.proofs.laws.written_y_stays_in.Goals as goal

pub returns : goal.returns
returns c = written_y_stays_in
