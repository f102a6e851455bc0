use Rattle.v8_contained.proofs.States.{states_stay}
use Rattle.v8_contained.proofs.laws.states_stay.Goals as goal

pub returns : goal.returns
returns c = λ n mmu x st input. states_stay n mmu x st input
