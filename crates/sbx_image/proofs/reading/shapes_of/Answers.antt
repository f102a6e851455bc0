use Rattle.std.proofs.Common.{arith}
use Rattle.std.proofs.lemmas.Grind.{common_steps}
use Rattle.sbx_image.specs.Reading.{shapes_at}
use Rattle.sbx_image.proofs.Lengths.{lengths_few}
use Rattle.sbx_image.proofs.reading.shapes_of.Goals as goal

pub returns-clause-bound : goal.returns-clause-bound
returns-clause-bound c = λ _. lengths_few c.args.header.data_count c.args.bytes.now (c.in_ok-shapes.shapes.items, (c.in_ok-shapes.field-0-1-0, c.in_ok-shapes.rest.now)) c.in_ok-shapes.ensures

pub returns-in_err-shapes-clause-reads : goal.returns-in_err-shapes-clause-reads
unfolding shapes_at
returns-in_err-shapes-clause-reads c = grind (arith, common_steps)

pub returns-clause-reads : goal.returns-clause-reads
unfolding shapes_at
returns-clause-reads c = grind (arith, common_steps)

pub returns-then-header-eq1-clause-bound : goal.returns-then-header-eq1-clause-bound
unfolding shapes_at
returns-then-header-eq1-clause-bound c = grind (arith, common_steps)

pub returns-then-header-eq1-clause-reads : goal.returns-then-header-eq1-clause-reads
unfolding shapes_at
returns-then-header-eq1-clause-reads c = grind (arith, common_steps)
