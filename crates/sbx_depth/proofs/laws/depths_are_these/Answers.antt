use Rattle.sbx_depth.proofs.Examples.{depths_are_these}
use Rattle.sbx_depth.proofs.laws.depths_are_these.Goals as goal

pub returns : goal.returns
returns c = depths_are_these
