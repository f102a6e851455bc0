use Rattle.std.proofs.Common.{arith}
use Rattle.std.proofs.lemmas.Grind.{common_steps}
use Rattle.v8_core.proofs.machine.Machine.bus_mut.Goals as goal

pub invariant_of-self-lent : goal.invariant_of-self-lent
invariant_of-self-lent g c = λ w. c.clear.ensures _ _

pub returns : goal.returns
returns g c = grind (arith, common_steps)
