use Rattle.std.proofs.lemmas.Grind.{common_steps}
use Rattle.v8_memory.proofs.Bytes.{words}
use Rattle.v8_mmu.specs.Ram.{double_of}
use Rattle.std.proofs.Common.{rules, arith}
use Rattle.v8_memory.proofs.ram.Ram.double.Goals as goal

pub returns-clause-value : goal.returns-clause-value
unfolding double_of
returns-clause-value c = search rules

pub returns-clause-small : goal.returns-clause-small
unfolding double_of
returns-clause-small c = grind (arith, common_steps, words)

pub overflow_add-result : goal.overflow_add-result
unfolding double_of
overflow_add-result c = grind (arith, common_steps, words)

pub returns-in_default-entry-clause-value : goal.returns-in_default-entry-clause-value
unfolding double_of
returns-in_default-entry-clause-value c = grind (arith, common_steps, words)
