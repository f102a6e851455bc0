use Rattle.std.proofs.Common.{arith}
use Rattle.std.proofs.lemmas.Grind.{common_steps}
use Rattle.v8_state.specs.Traps.{applies}
use Rattle.v8_state.specs.Effects.{effect}
use Rattle.v8_state.proofs.state.Cpu.trap_on_condition.Goals as goal

pub second-requires : goal.second-requires
second-requires g c = assumption

pub returns-then-holds-clause-err : goal.returns-then-holds-clause-err
returns-then-holds-clause-err g c = assumption

pub get-first-requires : goal.get-first-requires
unfolding effect applies
get-first-requires g c = grind (arith, common_steps)

pub returns-clause-ok : goal.returns-clause-ok
unfolding effect applies
returns-clause-ok g c = grind (arith, common_steps)
