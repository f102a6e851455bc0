use Rattle.sbx_fits.proofs.Frames.{frames_keep_fitting}
use Rattle.sbx_fits.proofs.laws.frames_keep_fitting.Goals as goal

pub returns : goal.returns
returns c = frames_keep_fitting
