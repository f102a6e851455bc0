use Rattle.sbx_domain.proofs.Examples.{results_are_these}
use Rattle.sbx_domain.proofs.laws.results_are_these.Goals as goal

pub returns : goal.returns
returns c = results_are_these
