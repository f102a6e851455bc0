use Rattle.sbx_range.proofs.Alignments.{divisions_have_results}
use Rattle.sbx_range.proofs.laws.divisions_have_results.Goals as goal

pub returns : goal.returns
returns c = divisions_have_results
