use Rattle.std.proofs.Common.{arith}
use Rattle.std.proofs.lemmas.Grind.{common_steps}
use Rattle.v8_memory.proofs.Kept.{write_keeps}
use Rattle.v8_memory.proofs.memory.MemoryBus.write.Goals as goal

pub returns-then-write-clause-elsewhere : goal.returns-then-write-clause-elsewhere
returns-then-write-clause-elsewhere g c = write_keeps _ _ _ _ _ _ c.write.ensures.missing c.requires c.write.ensures.change

pub returns-in-Word-clause-elsewhere : goal.returns-in-Word-clause-elsewhere
returns-in-Word-clause-elsewhere g c = grind (arith, common_steps)

pub returns-else-write-clause-elsewhere : goal.returns-else-write-clause-elsewhere
returns-else-write-clause-elsewhere g c = grind (arith, common_steps)

pub put_word-requires : goal.put_word-requires
put_word-requires g c = grind (arith, common_steps)
