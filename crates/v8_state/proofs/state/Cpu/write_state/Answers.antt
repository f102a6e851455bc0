use Rattle.std.proofs.Common.{arith}
use Rattle.std.proofs.lemmas.Grind.{common_steps}
use Rattle.v8_state.specs.Traps.{applies}
use Rattle.v8_state.specs.Effects.{effect}
use Rattle.v8_state.proofs.state.Cpu.write_state.Goals as goal

pub state_operand-word-requires : goal.state_operand-word-requires
state_operand-word-requires g c = assumption

pub set_psr-requires : goal.set_psr-requires
set_psr-requires g c = assumption

pub returns-then-not-self-clause-trap : goal.returns-then-not-self-clause-trap
unfolding effect applies
returns-then-not-self-clause-trap g c = grind (arith, common_steps)

pub returns-else-not-set_psr-clause-ok : goal.returns-else-not-set_psr-clause-ok
unfolding effect applies
returns-else-not-set_psr-clause-ok g c = grind (arith, common_steps)

pub returns-in-Wim-clause-ok : goal.returns-in-Wim-clause-ok
unfolding effect applies
returns-in-Wim-clause-ok g c = grind (arith, common_steps)

pub returns-else-not-set_psr-clause-trap : goal.returns-else-not-set_psr-clause-trap
unfolding effect applies
returns-else-not-set_psr-clause-trap g c = grind (arith, common_steps)

pub returns-in-Wim-clause-trap : goal.returns-in-Wim-clause-trap
unfolding effect applies
returns-in-Wim-clause-trap g c = grind (arith, common_steps)

pub returns-then-not-set_psr-clause-trap : goal.returns-then-not-set_psr-clause-trap
unfolding effect applies
returns-then-not-set_psr-clause-trap g c = grind (arith, common_steps)

pub returns-in-Tbr-clause-trap : goal.returns-in-Tbr-clause-trap
unfolding effect applies
returns-in-Tbr-clause-trap g c = grind (arith, common_steps)

pub set_wim-requires : goal.set_wim-requires
unfolding effect applies
set_wim-requires g c = grind (arith, common_steps)

pub returns-in-Tbr-clause-ok : goal.returns-in-Tbr-clause-ok
unfolding effect applies
returns-in-Tbr-clause-ok g c = grind (arith, common_steps)

pub returns-then-not-set_psr-clause-err : goal.returns-then-not-set_psr-clause-err
unfolding effect applies
returns-then-not-set_psr-clause-err g c = grind (arith, common_steps)
