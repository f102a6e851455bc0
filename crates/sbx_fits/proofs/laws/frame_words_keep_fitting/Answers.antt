use Rattle.sbx_fits.proofs.Memory.{frame_words_keep_fitting}
use Rattle.sbx_fits.proofs.laws.frame_words_keep_fitting.Goals as goal

pub returns : goal.returns
returns c = frame_words_keep_fitting
