use Rattle.std.proofs.Common.{arith}
use Rattle.std.proofs.lemmas.Grind.{common_steps}
use Rattle.v8_state.specs.Traps.{applies}
use Rattle.v8_state.specs.Effects.{effect}
use Rattle.v8_state.proofs.state.Cpu.execute.Goals as goal

pub jump_and_link-requires : goal.jump_and_link-requires
jump_and_link-requires g c = assumption

pub returns-in-TrapOnCondition-clause-err : goal.returns-in-TrapOnCondition-clause-err
returns-in-TrapOnCondition-clause-err g c = assumption

pub unreachable-unreachable : goal.unreachable-unreachable
unreachable-unreachable g c = assumption

pub restore-requires : goal.restore-requires
restore-requires g c = assumption

pub returns-in-TaggedTrap-clause-err : goal.returns-in-TaggedTrap-clause-err
returns-in-TaggedTrap-clause-err g c = assumption

pub returns-in-ReadState-clause-err : goal.returns-in-ReadState-clause-err
returns-in-ReadState-clause-err g c = assumption

pub compute-requires : goal.compute-requires
compute-requires g c = assumption

pub set_high-requires : goal.set_high-requires
set_high-requires g c = assumption

pub compute_tagged-requires : goal.compute_tagged-requires
compute_tagged-requires g c = assumption

pub trap_on_condition-requires : goal.trap_on_condition-requires
trap_on_condition-requires g c = assumption

pub returns-in-Divide-clause-err : goal.returns-in-Divide-clause-err
returns-in-Divide-clause-err g c = assumption

pub write_y-requires : goal.write_y-requires
write_y-requires g c = assumption

pub call-requires : goal.call-requires
call-requires g c = assumption

pub save-requires : goal.save-requires
save-requires g c = assumption

pub returns-in-Save-clause-err : goal.returns-in-Save-clause-err
returns-in-Save-clause-err g c = assumption

pub returns-in-Coprocessor-clause-err : goal.returns-in-Coprocessor-clause-err
returns-in-Coprocessor-clause-err g c = assumption

pub return_from_trap-requires : goal.return_from_trap-requires
return_from_trap-requires g c = assumption

pub branch-self-requires : goal.branch-self-requires
branch-self-requires g c = assumption

pub returns-in-JumpAndLink-clause-err : goal.returns-in-JumpAndLink-clause-err
returns-in-JumpAndLink-clause-err g c = assumption

pub returns-in-Restore-clause-err : goal.returns-in-Restore-clause-err
returns-in-Restore-clause-err g c = assumption

pub returns-in-WriteState-clause-err : goal.returns-in-WriteState-clause-err
returns-in-WriteState-clause-err g c = assumption

pub returns-in-Illegal-clause-err : goal.returns-in-Illegal-clause-err
returns-in-Illegal-clause-err g c = assumption

pub returns-in-ReturnFromTrap-clause-err : goal.returns-in-ReturnFromTrap-clause-err
returns-in-ReturnFromTrap-clause-err g c = assumption

pub returns-in-FloatingPoint-clause-err : goal.returns-in-FloatingPoint-clause-err
returns-in-FloatingPoint-clause-err g c = assumption

pub write_state-requires : goal.write_state-requires
write_state-requires g c = assumption

pub read_state-requires : goal.read_state-requires
read_state-requires g c = assumption

pub divide-requires : goal.divide-requires
divide-requires g c = assumption

pub read_y-requires : goal.read_y-requires
read_y-requires g c = assumption

pub returns-in-Nothing-clause-trap : goal.returns-in-Nothing-clause-trap
unfolding effect applies
returns-in-Nothing-clause-trap g c = grind (arith, common_steps)

pub returns-in-TaggedTrap-clause-trap : goal.returns-in-TaggedTrap-clause-trap
unfolding effect applies
returns-in-TaggedTrap-clause-trap g c = grind (arith, common_steps)

pub unreachable-requires : goal.unreachable-requires
unfolding effect applies
unreachable-requires g c = grind (arith, common_steps)

pub returns-in-SetHigh-clause-trap : goal.returns-in-SetHigh-clause-trap
unfolding effect applies
returns-in-SetHigh-clause-trap g c = grind (arith, common_steps)

pub returns-in-Compute-clause-ok : goal.returns-in-Compute-clause-ok
unfolding effect applies
returns-in-Compute-clause-ok g c = grind (arith, common_steps)

pub returns-in-WriteState-clause-trap : goal.returns-in-WriteState-clause-trap
unfolding effect applies
returns-in-WriteState-clause-trap g c = grind (arith, common_steps)

pub returns-in-Save-clause-trap : goal.returns-in-Save-clause-trap
unfolding effect applies
returns-in-Save-clause-trap g c = grind (arith, common_steps)

pub returns-in-ReadY-clause-trap : goal.returns-in-ReadY-clause-trap
unfolding effect applies
returns-in-ReadY-clause-trap g c = grind (arith, common_steps)

pub returns-in-BranchOnCondition-clause-trap : goal.returns-in-BranchOnCondition-clause-trap
unfolding effect applies
returns-in-BranchOnCondition-clause-trap g c = grind (arith, common_steps)

pub returns-in-BranchOnCondition-clause-ok : goal.returns-in-BranchOnCondition-clause-ok
unfolding effect applies
returns-in-BranchOnCondition-clause-ok g c = grind (arith, common_steps)

pub returns-in-WriteState-clause-ok : goal.returns-in-WriteState-clause-ok
unfolding effect applies
returns-in-WriteState-clause-ok g c = grind (arith, common_steps)

pub returns-in-ReadY-clause-ok : goal.returns-in-ReadY-clause-ok
unfolding effect applies
returns-in-ReadY-clause-ok g c = grind (arith, common_steps)

pub returns-in-Coprocessor-clause-trap : goal.returns-in-Coprocessor-clause-trap
unfolding effect applies
returns-in-Coprocessor-clause-trap g c = grind (arith, common_steps)

pub returns-in-TaggedTrap-clause-ok : goal.returns-in-TaggedTrap-clause-ok
unfolding effect applies
returns-in-TaggedTrap-clause-ok g c = grind (arith, common_steps)

pub returns-in-JumpAndLink-clause-ok : goal.returns-in-JumpAndLink-clause-ok
unfolding effect applies
returns-in-JumpAndLink-clause-ok g c = grind (arith, common_steps)

pub returns-in-Nothing-clause-ok : goal.returns-in-Nothing-clause-ok
unfolding effect applies
returns-in-Nothing-clause-ok g c = grind (arith, common_steps)

pub returns-in-Illegal-clause-trap : goal.returns-in-Illegal-clause-trap
unfolding effect applies
returns-in-Illegal-clause-trap g c = grind (arith, common_steps)

pub returns-in-ReturnFromTrap-clause-ok : goal.returns-in-ReturnFromTrap-clause-ok
unfolding effect applies
returns-in-ReturnFromTrap-clause-ok g c = grind (arith, common_steps)

pub returns-in-Save-clause-ok : goal.returns-in-Save-clause-ok
unfolding effect applies
returns-in-Save-clause-ok g c = grind (arith, common_steps)

pub returns-in-TrapOnCondition-clause-trap : goal.returns-in-TrapOnCondition-clause-trap
unfolding effect applies
returns-in-TrapOnCondition-clause-trap g c = grind (arith, common_steps)

pub returns-in-Restore-clause-ok : goal.returns-in-Restore-clause-ok
unfolding effect applies
returns-in-Restore-clause-ok g c = grind (arith, common_steps)

pub returns-in-FloatingPoint-clause-trap : goal.returns-in-FloatingPoint-clause-trap
unfolding effect applies
returns-in-FloatingPoint-clause-trap g c = grind (arith, common_steps)

pub returns-in-WriteY-clause-ok : goal.returns-in-WriteY-clause-ok
unfolding effect applies
returns-in-WriteY-clause-ok g c = grind (arith, common_steps)

pub returns-in-ReturnFromTrap-clause-trap : goal.returns-in-ReturnFromTrap-clause-trap
unfolding effect applies
returns-in-ReturnFromTrap-clause-trap g c = grind (arith, common_steps)

pub returns-in-SetHigh-clause-ok : goal.returns-in-SetHigh-clause-ok
unfolding effect applies
returns-in-SetHigh-clause-ok g c = grind (arith, common_steps)

pub returns-in-WriteY-clause-trap : goal.returns-in-WriteY-clause-trap
unfolding effect applies
returns-in-WriteY-clause-trap g c = grind (arith, common_steps)

pub returns-in-Compute-clause-trap : goal.returns-in-Compute-clause-trap
unfolding effect applies
returns-in-Compute-clause-trap g c = grind (arith, common_steps)

pub returns-in-TrapOnCondition-clause-ok : goal.returns-in-TrapOnCondition-clause-ok
unfolding effect applies
returns-in-TrapOnCondition-clause-ok g c = grind (arith, common_steps)

pub returns-in-JumpAndLink-clause-trap : goal.returns-in-JumpAndLink-clause-trap
unfolding effect applies
returns-in-JumpAndLink-clause-trap g c = grind (arith, common_steps)

pub returns-in-ReadState-clause-ok : goal.returns-in-ReadState-clause-ok
unfolding effect applies
returns-in-ReadState-clause-ok g c = grind (arith, common_steps)

pub returns-in-Call-clause-ok : goal.returns-in-Call-clause-ok
unfolding effect applies
returns-in-Call-clause-ok g c = grind (arith, common_steps)

pub returns-in-Call-clause-trap : goal.returns-in-Call-clause-trap
unfolding effect applies
returns-in-Call-clause-trap g c = grind (arith, common_steps)

pub returns-in-ReadState-clause-trap : goal.returns-in-ReadState-clause-trap
unfolding effect applies
returns-in-ReadState-clause-trap g c = grind (arith, common_steps)

pub returns-in-Restore-clause-trap : goal.returns-in-Restore-clause-trap
unfolding effect applies
returns-in-Restore-clause-trap g c = grind (arith, common_steps)

pub returns-in-Divide-clause-ok : goal.returns-in-Divide-clause-ok
unfolding effect applies
returns-in-Divide-clause-ok g c = grind (arith, common_steps)

pub returns-in-Divide-clause-trap : goal.returns-in-Divide-clause-trap
unfolding effect applies
returns-in-Divide-clause-trap g c = grind (arith, common_steps)
