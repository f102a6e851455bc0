use Rattle.v8_board.proofs.Asking.{asks_once_a_turn}
use Rattle.v8_board.proofs.laws.turns_ask_once.Goals as goal

pub returns : goal.returns
returns c = λ n k s. asks_once_a_turn n k s
