use Rattle.v8_windows.proofs.AfterWrites.{reads_others}
use Rattle.v8_windows.proofs.laws.reads_others_as_before.Goals as goal

pub returns : goal.returns
returns c = λ n v r s x f high small other. reads_others n v r s x f high small other
