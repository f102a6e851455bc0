use Rattle.sbx_batch.proofs.Law.{runs_use_the_same}
use Rattle.sbx_batch.proofs.laws.runs_use_the_same_pages.Goals as goal

pub returns : goal.returns
returns c = runs_use_the_same
