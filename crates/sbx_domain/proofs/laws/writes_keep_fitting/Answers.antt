use Rattle.sbx_domain.proofs.Writes.{writes_keep_fitting}
use Rattle.sbx_domain.proofs.laws.writes_keep_fitting.Goals as goal

pub returns : goal.returns
returns c = writes_keep_fitting
