use Rattle.std.proofs.Common.{arith}
use Rattle.std.proofs.lemmas.Grind.{common_steps}
use Rattle.v8_state.specs.Registers.{booted}
use Rattle.v8_state.proofs.state.Cpu.new.Goals as goal

pub returns-clause-file : goal.returns-clause-file
returns-clause-file g c = assumption

pub boot-requires : goal.boot-requires
boot-requires g c = assumption

pub returns-clause-value : goal.returns-clause-value
unfolding booted
returns-clause-value g c = grind (arith, common_steps)

pub new-requires : goal.new-requires
unfolding booted
new-requires g c = grind (arith, common_steps)
