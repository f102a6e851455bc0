use Rattle.v8_windows.proofs.AfterWrites.{outs_are_ins}
use Rattle.v8_windows.proofs.laws.outs_are_ins_below.Goals as goal

pub returns : goal.returns
returns c = λ n v r f low high. outs_are_ins n v r f low high
