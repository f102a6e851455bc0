use Rattle.std.proofs.Common.{rules}
use Rattle.v8_alu.specs.Outcomes.{tagged_outcome}
use Rattle.v8_alu.proofs.tagged_tv.Goals as goal

pub returns-else-icc : goal.returns-else-icc
unfolding tagged_outcome
returns-else-icc c = search rules
