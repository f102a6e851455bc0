use Rattle.sbx_range.proofs.Kept.{refinement_keeps_words}
use Rattle.sbx_range.proofs.laws.refinement_keeps_words.Goals as goal

pub returns : goal.returns
returns c = refinement_keeps_words
