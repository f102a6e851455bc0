use Rattle.std.proofs.lemmas.Grind.{common_steps}
use Rattle.sbx_range.specs.Refining.{some_range}
use Rattle.std.proofs.Common.{rules, arith}
use Rattle.sbx_range.proofs.refining.between.Goals as goal

pub overflow_cast-result : goal.overflow_cast-result
overflow_cast-result c = search rules

pub overflow_cast-result-else-hi-lo : goal.overflow_cast-result-else-hi-lo
unfolding some_range
overflow_cast-result-else-hi-lo c = grind (arith, common_steps)
