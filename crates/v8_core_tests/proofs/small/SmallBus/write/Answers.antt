use Rattle.v8_core_tests.proofs.Kept.{small_keeps}
use Rattle.v8_core_tests.proofs.small.SmallBus.write.Goals as goal

pub returns-then-take-clause-elsewhere : goal.returns-then-take-clause-elsewhere
returns-then-take-clause-elsewhere g c = small_keeps _ _ _ _ _ _ _ (rw c.if-take.true at c.take.ensures.done)
