use Rattle.std.proofs.lemmas.Grind.{common_steps}
use Rattle.v8_memory.specs.Board.{gets}
use Rattle.std.proofs.Common.{rules, arith}
use Rattle.v8_memory.proofs.memory.Memory.get_word.Goals as goal

pub returns-in-Ok-Some-clause-ok : goal.returns-in-Ok-Some-clause-ok
unfolding gets
returns-in-Ok-Some-clause-ok g c = search rules

pub returns-then-self-clause-ok : goal.returns-then-self-clause-ok
unfolding gets
returns-then-self-clause-ok g c = search rules

pub returns-in-Ok-None-clause-ok : goal.returns-in-Ok-None-clause-ok
unfolding gets
returns-in-Ok-None-clause-ok g c = search rules

pub returns-in-Err-clause-ended : goal.returns-in-Err-clause-ended
returns-in-Err-clause-ended g c = assumption

pub returns-in-Ok-Some-clause-ram : goal.returns-in-Ok-Some-clause-ram
returns-in-Ok-Some-clause-ram g c = assumption

pub returns-in-Err-clause-stopped : goal.returns-in-Err-clause-stopped
returns-in-Err-clause-stopped g c = assumption

pub returns-in-Err-clause-ram : goal.returns-in-Err-clause-ram
returns-in-Err-clause-ram g c = assumption

pub returns-in-Err-clause-ok : goal.returns-in-Err-clause-ok
returns-in-Err-clause-ok g c = assumption

pub returns-in-Ok-Some-clause-own : goal.returns-in-Ok-Some-clause-own
returns-in-Ok-Some-clause-own g c = assumption

pub returns-in-Ok-Some-clause-ended : goal.returns-in-Ok-Some-clause-ended
returns-in-Ok-Some-clause-ended g c = assumption

pub returns-in-Err-clause-output : goal.returns-in-Err-clause-output
returns-in-Err-clause-output g c = assumption

pub returns-in-Ok-Some-clause-output : goal.returns-in-Ok-Some-clause-output
returns-in-Ok-Some-clause-output g c = assumption

pub returns-in-Ok-None-clause-output : goal.returns-in-Ok-None-clause-output
returns-in-Ok-None-clause-output g c = assumption

pub returns-in-Ok-Some-clause-stopped : goal.returns-in-Ok-Some-clause-stopped
returns-in-Ok-Some-clause-stopped g c = assumption

pub returns-in-Err-clause-small : goal.returns-in-Err-clause-small
returns-in-Err-clause-small g c = assumption

pub returns-in-Ok-Some-clause-input : goal.returns-in-Ok-Some-clause-input
returns-in-Ok-Some-clause-input g c = assumption

pub returns-in-Err-clause-calls : goal.returns-in-Err-clause-calls
unfolding gets
returns-in-Err-clause-calls g c = grind (arith, common_steps)

pub returns-in-Err-clause-own : goal.returns-in-Err-clause-own
unfolding gets
returns-in-Err-clause-own g c = grind (arith, common_steps)

pub returns-in-Err-clause-input : goal.returns-in-Err-clause-input
unfolding gets
returns-in-Err-clause-input g c = grind (arith, common_steps)

pub returns-in-Ok-Some-clause-count : goal.returns-in-Ok-Some-clause-count
unfolding gets
returns-in-Ok-Some-clause-count g c = grind (arith, common_steps)

pub returns-in-Ok-None-clause-calls : goal.returns-in-Ok-None-clause-calls
unfolding gets
returns-in-Ok-None-clause-calls g c = grind (arith, common_steps)

pub returns-in-Ok-Some-clause-calls : goal.returns-in-Ok-Some-clause-calls
unfolding gets
returns-in-Ok-Some-clause-calls g c = grind (arith, common_steps)

pub returns-in-Err-clause-count : goal.returns-in-Err-clause-count
unfolding gets
returns-in-Err-clause-count g c = grind (arith, common_steps)

pub returns-in-Ok-Some-clause-small : goal.returns-in-Ok-Some-clause-small
unfolding gets
returns-in-Ok-Some-clause-small g c = grind (arith, common_steps)

pub returns-in-Ok-None-clause-count : goal.returns-in-Ok-None-clause-count
unfolding gets
returns-in-Ok-None-clause-count g c = grind (arith, common_steps)
