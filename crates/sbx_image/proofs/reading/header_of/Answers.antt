use Rattle.std.proofs.Common.{arith}
use Rattle.std.proofs.lemmas.Grind.{common_steps}
use Rattle.sbx_image.specs.Reading.{header_at}
use Rattle.sbx_image.proofs.reading.header_of.Goals as goal

pub returns-clause-bound : goal.returns-clause-bound
returns-clause-bound c = (c.in_ok-words.ensures.bound.1, c.in_ok-data_count.ensures.bound)

pub returns-in_err-version-clause-reads : goal.returns-in_err-version-clause-reads
unfolding header_at
returns-in_err-version-clause-reads c = grind (arith, common_steps)
