use Rattle.sbx_depth.proofs.Quiet.{depth_bounds_frames}
use Rattle.sbx_depth.proofs.laws.depth_bounds_frames.Goals as goal

pub returns : goal.returns
returns c = depth_bounds_frames
