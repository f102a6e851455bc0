use Rattle.std.proofs.Common.{arith}
use Rattle.std.proofs.lemmas.Grind.{common_steps}
use Rattle.sbx_image.specs.Reading.{data_count_at}
use Rattle.sbx_image.proofs.reading.data_count_of.Goals as goal

pub returns-then-version-eq1-clause-bound : goal.returns-then-version-eq1-clause-bound
returns-then-version-eq1-clause-bound c = assumption

pub overflow_cast-result : goal.overflow_cast-result
unfolding data_count_at
overflow_cast-result c = grind (arith, common_steps)

pub returns-clause-bound : goal.returns-clause-bound
unfolding data_count_at
returns-clause-bound c = grind (arith, common_steps)

pub returns-then-version-eq1-clause-reads : goal.returns-then-version-eq1-clause-reads
unfolding data_count_at
returns-then-version-eq1-clause-reads c = grind (arith, common_steps)

pub returns-clause-reads : goal.returns-clause-reads
unfolding data_count_at
returns-clause-reads c = grind (arith, common_steps)
