use Rattle.sbx_fits.proofs.Frames.{calls_keep_fitting}
use Rattle.sbx_fits.proofs.laws.calls_keep_fitting.Goals as goal

pub returns : goal.returns
returns c = calls_keep_fitting
