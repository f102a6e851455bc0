use Rattle.std.proofs.Common.{arith}
use Rattle.std.proofs.lemmas.Grind.{common_steps}
use Rattle.v8_state.specs.Traps.{memory_applies}
use Rattle.v8_state.proofs.state.Cpu.reach.Goals as goal

pub address-va-requires : goal.address-va-requires
address-va-requires g c = assumption

pub returns-clause-address : goal.returns-clause-address
returns-clause-address g c = assumption

pub returns-then-is_unknown-clause-address : goal.returns-then-is_unknown-clause-address
returns-then-is_unknown-clause-address g c = assumption

pub nonzero_rem-va : goal.nonzero_rem-va
nonzero_rem-va g c = assumption

pub returns-then-is_unknown-clause-trap : goal.returns-then-is_unknown-clause-trap
unfolding memory_applies
returns-then-is_unknown-clause-trap g c = grind (arith, common_steps)

pub returns-clause-trap : goal.returns-clause-trap
unfolding memory_applies
returns-clause-trap g c = grind (arith, common_steps)

pub returns-then-not-self-clause-trap : goal.returns-then-not-self-clause-trap
unfolding memory_applies
returns-then-not-self-clause-trap g c = grind (arith, common_steps)

pub returns-then-is_missing-clause-trap : goal.returns-then-is_missing-clause-trap
unfolding memory_applies
returns-then-is_missing-clause-trap g c = grind (arith, common_steps)
