use Rattle.sbx_domain.proofs.Examples.{relations_are_these}
use Rattle.sbx_domain.proofs.laws.relations_are_these.Goals as goal

pub returns : goal.returns
returns c = relations_are_these
