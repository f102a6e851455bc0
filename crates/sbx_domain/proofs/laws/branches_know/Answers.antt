use Rattle.sbx_domain.proofs.Examples.{branches_know}
use Rattle.sbx_domain.proofs.laws.branches_know.Goals as goal

pub returns : goal.returns
returns c = branches_know
