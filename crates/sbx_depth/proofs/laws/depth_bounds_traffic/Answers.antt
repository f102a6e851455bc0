use Rattle.sbx_depth.proofs.Quiet.{depth_bounds_traffic}
use Rattle.sbx_depth.proofs.laws.depth_bounds_traffic.Goals as goal

pub returns : goal.returns
returns c = depth_bounds_traffic
