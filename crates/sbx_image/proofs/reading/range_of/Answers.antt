use Rattle.sbx_image.specs.Reading.{range_at}
use Rattle.std.proofs.Common.{rules}
use Rattle.sbx_image.proofs.reading.range_of.Goals as goal

pub returns-in_err-alignment : goal.returns-in_err-alignment
unfolding range_at
returns-in_err-alignment c = search rules

pub returns : goal.returns
unfolding range_at
returns c = search rules
