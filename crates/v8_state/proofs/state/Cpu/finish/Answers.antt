use Rattle.std.proofs.lemmas.Grind.{common_steps}
use Rattle.std.proofs.Common.{rules, arith}
use Rattle.v8_state.specs.Effects.{computed}
use Rattle.v8_state.proofs.state.Cpu.finish.Goals as goal

pub returns : goal.returns
unfolding computed
returns g c = search rules

pub set-requires : goal.set-requires
unfolding computed
set-requires g c = grind (arith, common_steps)
