use Rattle.sbx_range.proofs.Kept.{refinement_keeps_pairs}
use Rattle.sbx_range.proofs.laws.refinement_keeps_pairs.Goals as goal

pub returns : goal.returns
returns c = refinement_keeps_pairs
