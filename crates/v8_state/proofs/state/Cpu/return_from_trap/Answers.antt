use Rattle.std.proofs.Common.{arith}
use Rattle.std.proofs.lemmas.Grind.{common_steps}
use Rattle.v8_state.specs.Traps.{applies}
use Rattle.v8_state.specs.Effects.{effect, returned}
use Rattle.v8_state.proofs.state.Cpu.return_from_trap.Goals as goal

pub address-resumed-requires : goal.address-resumed-requires
address-resumed-requires g c = assumption

pub returns-then-not-leave_trap-clause-err : goal.returns-then-not-leave_trap-clause-err
unfolding effect returned applies
returns-then-not-leave_trap-clause-err g c = grind (arith, common_steps)

pub returns-then-self-clause-trap : goal.returns-then-self-clause-trap
unfolding effect returned applies
returns-then-self-clause-trap g c = grind (arith, common_steps)

pub returns-then-not-supervisor-clause-trap : goal.returns-then-not-supervisor-clause-trap
unfolding effect returned applies
returns-then-not-supervisor-clause-trap g c = grind (arith, common_steps)

pub returns-then-resumed-ne0-clause-err : goal.returns-then-resumed-ne0-clause-err
unfolding effect returned applies
returns-then-resumed-ne0-clause-err g c = grind (arith, common_steps)

pub leave_trap-requires : goal.leave_trap-requires
unfolding effect returned applies
leave_trap-requires g c = grind (arith, common_steps)

pub returns-clause-trap : goal.returns-clause-trap
unfolding effect returned applies
returns-clause-trap g c = grind (arith, common_steps)

pub set_cwp-requires : goal.set_cwp-requires
unfolding effect returned applies
set_cwp-requires g c = grind (arith, common_steps)

pub returns-clause-ok : goal.returns-clause-ok
unfolding effect returned applies
returns-clause-ok g c = grind (arith, common_steps)

pub cwp-cwp-requires : goal.cwp-cwp-requires
unfolding effect returned applies
cwp-cwp-requires g c = grind (arith, common_steps)

pub returns-then-not-leave_trap-clause-trap : goal.returns-then-not-leave_trap-clause-trap
unfolding effect returned applies
returns-then-not-leave_trap-clause-trap g c = grind (arith, common_steps)
