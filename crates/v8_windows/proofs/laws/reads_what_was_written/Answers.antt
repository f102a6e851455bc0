use Rattle.v8_windows.proofs.AfterWrites.{reads_written}
use Rattle.v8_windows.proofs.laws.reads_what_was_written.Goals as goal

pub returns : goal.returns
returns c = λ n v r x f low high. reads_written n v r x f low high
