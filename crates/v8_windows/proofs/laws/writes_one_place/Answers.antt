use Rattle.v8_windows.proofs.AfterWrites.{written_at}
use Rattle.v8_windows.proofs.laws.writes_one_place.Goals as goal

pub returns : goal.returns
returns c = λ n v r x w k f low high. written_at n v r x w k f low high
