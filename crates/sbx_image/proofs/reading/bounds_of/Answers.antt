use Rattle.sbx_image.specs.Reading.{bounds_at}
use Rattle.std.proofs.Common.{rules}
use Rattle.sbx_image.proofs.reading.bounds_of.Goals as goal

pub returns : goal.returns
unfolding bounds_at
returns c = search rules
