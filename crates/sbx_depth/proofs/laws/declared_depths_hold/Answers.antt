use Rattle.sbx_depth.proofs.Declared.{declared_depths_hold}
use Rattle.sbx_depth.proofs.laws.declared_depths_hold.Goals as goal

pub returns : goal.returns
returns c = declared_depths_hold
