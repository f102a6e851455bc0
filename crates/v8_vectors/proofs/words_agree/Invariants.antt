use Rattle.std.proofs.Common.{take}
use Rattle.v8_vectors.proofs.Readings.{WordsSoFar}
use Rattle.v8_vectors.proofs.words_agree.Given as goal

abbrev pub invariant-loop-text : goal.invariant-loop-text
invariant-loop-text l = WordsSoFar (take l.text-index l.words) l.all
