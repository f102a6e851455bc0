use Rattle.std.proofs.lemmas.Grind.{common_steps}
use Rattle.std.proofs.Common.{arith}
use Rattle.sbx_image.proofs.TakesLaws.{reading_takes}
use Rattle.sbx_image.proofs.reading.parse.Goals as goal

pub of-requires : goal.of-requires
of-requires c = (reading_takes c.args.bytes.now c.in_ok-parts.parts (λ i. omega (arith, c.type_inv.bytes i)) c.in_ok-parts.ensures).1

pub returns-clause-spelled : goal.returns-clause-spelled
returns-clause-spelled c = rw c.of.ensures (reading_takes c.args.bytes.now c.in_ok-parts.parts (λ i. omega (arith, c.type_inv.bytes i)) c.in_ok-parts.ensures).0

pub returns-clause-read : goal.returns-clause-read
returns-clause-read c = grind (arith, common_steps)
