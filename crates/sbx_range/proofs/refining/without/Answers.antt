use Rattle.std.proofs.lemmas.Grind.{common_steps}
use Rattle.sbx_range.specs.Refining.{without}
use Rattle.std.proofs.Common.{rules, arith}
use Rattle.sbx_range.proofs.refining.without.Goals as goal

pub returns-then-is_single : goal.returns-then-is_single
unfolding without
returns-then-is_single c = search rules

pub between-requires-clause-high : goal.between-requires-clause-high
unfolding without
between-requires-clause-high c = grind (arith, common_steps)
