use Rattle.std.proofs.Common.{arith}
use Rattle.std.proofs.lemmas.Grind.{common_steps}
use Rattle.v8_board.specs.Runs.{outcome_of}
use Rattle.sbx_session.proofs.advancing.count.Goals as goal

pub outcome-requires : goal.outcome-requires
outcome-requires g c = assumption

pub returns : goal.returns
unfolding outcome_of
returns g c = grind (arith, common_steps)
