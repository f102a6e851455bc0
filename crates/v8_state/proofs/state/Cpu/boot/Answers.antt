use Rattle.std.proofs.Common.{arith}
use Rattle.std.proofs.lemmas.Grind.{common_steps}
use Rattle.v8_state.proofs.Masks.{second_window}
use Rattle.v8_state.specs.Registers.{booted}
use Rattle.v8_state.proofs.state.Cpu.boot.Goals as goal

pub returns-clause-file : goal.returns-clause-file
returns-clause-file g c = assumption

pub cwp-requires : goal.cwp-requires
unfolding booted
cwp-requires g c = grind (arith, common_steps, second_window)

pub set-requires : goal.set-requires
unfolding booted
set-requires g c = grind (arith, common_steps, second_window)

pub set_cwp-requires : goal.set_cwp-requires
unfolding booted
set_cwp-requires g c = grind (arith, common_steps, second_window)

pub returns-clause-value : goal.returns-clause-value
unfolding booted
returns-clause-value g c = grind (arith, common_steps, second_window)

pub cwp-requires-2 : goal.cwp-requires-2
unfolding booted
cwp-requires-2 g c = grind (arith, common_steps, second_window)

pub set_wim-requires : goal.set_wim-requires
unfolding booted
set_wim-requires g c = grind (arith, common_steps, second_window)
