use Rattle.std.proofs.lemmas.Grind.{common_steps}
use Rattle.std.proofs.Common.{◌≡◌, ℕ, arith}
use Rattle.sbx_flat.specs.Operation.{Operation}
use Rattle.sbx_domain.specs.Transfer.{transferred}
use Rattle.sbx_domain.specs.Known.{Known}
use Rattle.sbx_domain.proofs.state.State.perform.Goals as goal

by_operation : (frame : ℕ) (one other : Operation) (old new : Known) → new ≡ transferred frame other old → one ≡ other → new ≡ transferred frame one old
by_operation frame one other old new done is = rw is done

pub returns-in-Compute : goal.returns-in-Compute
returns-in-Compute c = by_operation _ _ _ _ _ (c.compute.ensures c.args.frame) c.in-Compute.is

pub returns-in-Divide : goal.returns-in-Divide
returns-in-Divide c = by_operation _ _ _ _ _ (c.divide.ensures c.args.frame) c.in-Divide.is

pub returns-in-TaggedTrap : goal.returns-in-TaggedTrap
returns-in-TaggedTrap c = by_operation _ _ _ _ _ (c.tagged_trap.ensures c.args.frame) c.in-TaggedTrap.is

pub returns-in-SetHigh : goal.returns-in-SetHigh
returns-in-SetHigh c = by_operation _ _ _ _ _ (c.set_high.ensures c.args.frame) c.in-SetHigh.is

pub returns-in-ReadY : goal.returns-in-ReadY
returns-in-ReadY c = by_operation _ _ _ _ _ (c.read_y.ensures c.args.frame) c.in-ReadY.is

pub returns-in-WriteY : goal.returns-in-WriteY
returns-in-WriteY c = by_operation _ _ _ _ _ (c.write_y.ensures c.args.frame) c.in-WriteY.is

pub returns-in-Save : goal.returns-in-Save
returns-in-Save c = by_operation _ _ _ _ _ (c.save.ensures c.args.frame c.in-Save.field-0) c.in-Save.is

pub returns-in-Restore : goal.returns-in-Restore
returns-in-Restore c = by_operation _ _ _ _ _ (c.restore.ensures c.args.frame) c.in-Restore.is

pub returns-in-Call : goal.returns-in-Call
returns-in-Call c = by_operation _ _ _ _ _ (c.call.ensures c.args.frame c.in-Call.field-0) c.in-Call.is

pub returns-in-TrapOnCondition : goal.returns-in-TrapOnCondition
returns-in-TrapOnCondition c = by_operation _ _ _ _ _ (c.serve.ensures c.args.frame) c.in-TrapOnCondition.is

pub returns-in-Transfer : goal.returns-in-Transfer
unfolding transferred
returns-in-Transfer c = grind (arith, common_steps)
