use Rattle.std.proofs.lemmas.Grind.{common_steps}
use Rattle.sbx_image.specs.Reading.{location_at}
use Rattle.std.proofs.Common.{rules, arith}
use Rattle.sbx_image.proofs.reading.location_of.Goals as goal

pub returns : goal.returns
unfolding location_at
returns c = search rules

pub returns-in_err-location : goal.returns-in_err-location
unfolding location_at
returns-in_err-location c = search rules

pub returns-then-location-last : goal.returns-then-location-last
unfolding location_at
returns-then-location-last c = grind (arith, common_steps)
