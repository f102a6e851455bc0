use Rattle.std.proofs.lemmas.Grind.{common_steps}
use Rattle.std.proofs.Common.{rules, arith}
use Rattle.v8_core.proofs.machine.Machine.new.Goals as goal

pub returns-clause-cpu : goal.returns-clause-cpu
returns-clause-cpu g c = search rules

pub returns-clause-mmu : goal.returns-clause-mmu
returns-clause-mmu g c = search rules

pub invariant_of-result : goal.invariant_of-result
invariant_of-result g c = c.new-2.ensures _ _

pub returns-clause-file : goal.returns-clause-file
returns-clause-file g c = assumption

pub new-requires : goal.new-requires
new-requires g c = grind (arith, common_steps)
