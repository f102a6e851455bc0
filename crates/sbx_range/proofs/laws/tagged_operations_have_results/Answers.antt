use Rattle.sbx_range.proofs.Alignments.{tagged_operations_have_results}
use Rattle.sbx_range.proofs.laws.tagged_operations_have_results.Goals as goal

pub returns : goal.returns
returns c = tagged_operations_have_results
