use Rattle.std.proofs.Common.{arith}
use Rattle.std.proofs.lemmas.Grind.{common_steps}
use Rattle.sbx_flat.specs.Runs.{weight_at}
use Rattle.flat_plain.proofs.paths.weight_at.Goals as goal

pub returns-in-Some-clause-bound : goal.returns-in-Some-clause-bound
returns-in-Some-clause-bound c = assumption

pub returns-in-None-clause-value : goal.returns-in-None-clause-value
unfolding weight_at
returns-in-None-clause-value c = grind (arith, common_steps)

pub returns-in-Some-clause-value : goal.returns-in-Some-clause-value
unfolding weight_at
returns-in-Some-clause-value c = grind (arith, common_steps)
