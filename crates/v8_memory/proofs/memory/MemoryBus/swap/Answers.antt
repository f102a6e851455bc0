use Rattle.std.proofs.lemmas.Grind.{common_steps}
use Rattle.std.proofs.Common.{arith}
use Rattle.v8_memory.proofs.Kept.{write_keeps}
use Rattle.v8_memory.proofs.memory.MemoryBus.swap.Goals as goal

pub returns-else-not-write-clause-elsewhere : goal.returns-else-not-write-clause-elsewhere
returns-else-not-write-clause-elsewhere g c = write_keeps _ _ _ _ _ _ c.write.ensures.missing c.requires c.write.ensures.change

pub returns-then-not-write-clause-small : goal.returns-then-not-write-clause-small
returns-then-not-write-clause-small g c = assumption

pub returns-in-None-clause-elsewhere : goal.returns-in-None-clause-elsewhere
returns-in-None-clause-elsewhere g c = assumption

pub returns-else-not-write-clause-small : goal.returns-else-not-write-clause-small
returns-else-not-write-clause-small g c = grind (arith, common_steps)

pub returns-then-not-write-clause-elsewhere : goal.returns-then-not-write-clause-elsewhere
returns-then-not-write-clause-elsewhere g c = grind (arith, common_steps)
