use Rattle.std.proofs.lemmas.Grind.{common_steps}
use Rattle.sbx_image.specs.Reading.{function_head_at}
use Rattle.std.proofs.Common.{rules, arith}
use Rattle.sbx_image.proofs.reading.function_head_of.Goals as goal

pub returns-clause-reads : goal.returns-clause-reads
unfolding function_head_at
returns-clause-reads c = search rules

pub returns-clause-bound : goal.returns-clause-bound
returns-clause-bound c = search rules

pub returns-then-not-admits-clause-reads : goal.returns-then-not-admits-clause-reads
unfolding function_head_at
returns-then-not-admits-clause-reads c = grind (arith, common_steps)

pub returns-in_err-counts-clause-reads : goal.returns-in_err-counts-clause-reads
unfolding function_head_at
returns-in_err-counts-clause-reads c = grind (arith, common_steps)

pub returns-then-not-admits-clause-bound : goal.returns-then-not-admits-clause-bound
returns-then-not-admits-clause-bound c = assumption
