use Rattle.std.proofs.lemmas.Grind.{common_steps}
use Rattle.sbx_image.specs.Reading.{reading}
use Rattle.std.proofs.Common.{rules, arith}
use Rattle.sbx_image.proofs.reading.whole_of.Goals as goal

pub returns : goal.returns
unfolding reading
returns c = search rules

pub returns-then-not-is_empty : goal.returns-then-not-is_empty
unfolding reading
returns-then-not-is_empty c = grind (arith, common_steps)
