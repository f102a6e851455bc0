use Rattle.std.proofs.Common.{arith}
use Rattle.std.proofs.lemmas.Grind.{common_steps}
use Rattle.sbx_range.specs.Rows.{range_srl}
use Rattle.sbx_range.proofs.shifts.range_srl.Goals as goal

pub returns-else-k-eq0 : goal.returns-else-k-eq0
unfolding range_srl
returns-else-k-eq0 c = grind (arith, common_steps)

pub overflow_sub-power : goal.overflow_sub-power
unfolding range_srl
overflow_sub-power c = grind (arith, common_steps)

pub returns-then-k-eq0 : goal.returns-then-k-eq0
unfolding range_srl
returns-then-k-eq0 c = grind (arith, common_steps)

pub halved_range-requires : goal.halved_range-requires
halved_range-requires c = assumption

pub overflow_sub-k : goal.overflow_sub-k
unfolding range_srl
overflow_sub-k c = grind (arith, common_steps)

pub overflow_cast-k : goal.overflow_cast-k
unfolding range_srl
overflow_cast-k c = grind (arith, common_steps)

pub power-requires : goal.power-requires
unfolding range_srl
power-requires c = grind (arith, common_steps)
