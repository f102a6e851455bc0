use Rattle.v8_marks.proofs.Turning.{turns_mark}
use Rattle.v8_marks.proofs.laws.turns_mark_what_they_reach.Goals as goal

pub returns : goal.returns
returns c = turns_mark
