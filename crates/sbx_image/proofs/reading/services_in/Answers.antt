use Rattle.std.proofs.lemmas.Grind.{common_steps}
use Rattle.std.proofs.Common.{rules, arith}
use Rattle.sbx_image.specs.Reading.{services_at}
use Rattle.sbx_image.proofs.reading.services_in.Goals as goal

pub returns-then-not-version : goal.returns-then-not-version
unfolding services_at
returns-then-not-version c = search rules

pub returns-in_err-bits : goal.returns-in_err-bits
unfolding services_at
returns-in_err-bits c = grind (arith, common_steps)

pub returns-in-Some : goal.returns-in-Some
unfolding services_at
returns-in-Some c = search rules

pub returns-in-None : goal.returns-in-None
unfolding services_at
returns-in-None c = search rules
