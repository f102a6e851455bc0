use Rattle.std.proofs.Common.{arith}
use Rattle.std.proofs.lemmas.Grind.{common_steps}
use Rattle.sbx_range.specs.Rows.{range_sll}
use Rattle.sbx_range.proofs.shifts.range_sll.Goals as goal

pub shifted_up-requires : goal.shifted_up-requires
shifted_up-requires c = assumption

pub shifted_up-requires-then-is_single : goal.shifted_up-requires-then-is_single
shifted_up-requires-then-is_single c = assumption

pub overflow_cast-k : goal.overflow_cast-k
unfolding range_sll
overflow_cast-k c = grind (arith, common_steps)
