use Rattle.std.proofs.Common.{rules}
use Rattle.sbx_domain.specs.Transfer.{transferred}
use Rattle.sbx_domain.proofs.state.State.restore.Goals as goal

pub returns : goal.returns
unfolding transferred
returns c = search rules
