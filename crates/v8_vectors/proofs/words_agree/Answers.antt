use Rattle.std.proofs.Common.{arith}
use Rattle.std.proofs.lemmas.Grind.{common_steps}
use Rattle.v8_vectors.proofs.Readings.{words_next}
use Rattle.v8_vectors.proofs.words_agree.Goals as goal

pub loop-text-preserved : goal.loop-text-preserved
loop-text-preserved c =
    words_next c.args.words.now c.loop-text.text-index _ _ c.loop-text.all _ (omega arith) c.loop-text.invariant c.in_ok-hexadecimal.ensures c.is_spelled_again.ensures

pub returns-clause-none : goal.returns-clause-none
returns-clause-none c = grind (arith, common_steps)
