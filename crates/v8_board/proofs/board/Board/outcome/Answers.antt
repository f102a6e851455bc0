use Rattle.v8_board.specs.Runs.{outcome_of}
use Rattle.std.proofs.Common.{arith}
use Rattle.std.proofs.lemmas.Grind.{common_steps}
use Rattle.v8_board.proofs.board.Board.outcome.Goals as goal

pub returns : goal.returns
unfolding outcome_of
returns g c = grind (arith, common_steps)

pub ending-requires : goal.ending-requires
ending-requires g c = assumption
