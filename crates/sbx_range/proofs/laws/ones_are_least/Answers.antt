use Rattle.sbx_range.proofs.Bitwise.{ones_are_least}
use Rattle.sbx_range.proofs.laws.ones_are_least.Goals as goal

pub returns : goal.returns
returns c = ones_are_least
