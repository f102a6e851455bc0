use Rattle.sbx_depth.proofs.Declared.{declared_depth_is_enough}
use Rattle.sbx_depth.proofs.laws.declared_depth_is_enough.Goals as goal

pub returns : goal.returns
returns c = declared_depth_is_enough
