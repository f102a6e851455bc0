use Rattle.std.proofs.Common.{refl, add-one}
use Rattle.std.proofs.lemmas.Grind.{common_steps}
use Rattle.std.proofs.Common.{arith}
use Rattle.inspect_states.specs.Registers.{copied}
use Rattle.inspect_states.proofs.registers.copy_window.Goals as goal

pub loop-number-init : goal.loop-number-init
unfolding copied
loop-number-init g c = refl

pub loop-number-preserved : goal.loop-number-preserved
unfolding copied
loop-number-preserved g c = rw add-one (grind (arith, common_steps, c.in-Some.ensures))
