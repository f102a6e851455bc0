use Rattle.std.proofs.Common.{rules}
use Rattle.v8_board_tests.proofs.ports.all_bytes.Goals as goal

pub returns : goal.returns
returns c = λ i. search rules
