use Rattle.v8_memory.proofs.memory.Memory.put_word.Goals as goal

pub returns-in-Err-clause-ram : goal.returns-in-Err-clause-ram
returns-in-Err-clause-ram g c = assumption

pub returns-in-Ok-clause-ram : goal.returns-in-Ok-clause-ram
returns-in-Ok-clause-ram g c = assumption
