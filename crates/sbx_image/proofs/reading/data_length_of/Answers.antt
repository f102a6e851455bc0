use Rattle.std.proofs.Common.{arith}
use Rattle.std.proofs.lemmas.Grind.{common_steps}
use Rattle.sbx_image.specs.Reading.{data_length_at}
use Rattle.sbx_image.proofs.reading.data_length_of.Goals as goal

pub returns-clause-bound : goal.returns-clause-bound
returns-clause-bound c = assumption

pub returns-then-not-data_bytes-clause-bound : goal.returns-then-not-data_bytes-clause-bound
returns-then-not-data_bytes-clause-bound c = assumption

pub returns-then-not-data_bytes-clause-reads : goal.returns-then-not-data_bytes-clause-reads
unfolding data_length_at
returns-then-not-data_bytes-clause-reads c = grind (arith, common_steps)

pub returns-clause-reads : goal.returns-clause-reads
unfolding data_length_at
returns-clause-reads c = grind (arith, common_steps)
