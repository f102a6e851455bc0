use Rattle.sbx_range.specs.Refining.{above_unsigned}
use Rattle.std.proofs.Common.{rules}
use Rattle.sbx_range.proofs.refining.above_unsigned.Goals as goal

pub returns-then-is_natural-2 : goal.returns-then-is_natural-2
unfolding above_unsigned
returns-then-is_natural-2 c = search rules
