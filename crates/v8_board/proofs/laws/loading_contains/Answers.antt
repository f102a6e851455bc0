use Rattle.v8_board.proofs.Contained.{stays_contained}
use Rattle.v8_board.proofs.laws.loading_contains.Goals as goal

pub returns : goal.returns
returns c = λ n p s h k. stays_contained n p s h k
