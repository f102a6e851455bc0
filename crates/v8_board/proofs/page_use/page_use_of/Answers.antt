use Rattle.v8_board.specs.Marks.{page_use_of}
use Rattle.std.proofs.Common.{rules}
use Rattle.v8_board.proofs.page_use.page_use_of.Goals as goal

pub returns : goal.returns
unfolding page_use_of
returns g c = search rules
