use Rattle.v8_state.proofs.Priorities.{first_is_least}
use Rattle.v8_state.proofs.laws.first_trap_is_least.Goals as goal

pub returns : goal.returns
returns c = λ n cpu i. first_is_least n cpu i
