use Rattle.std.proofs.Common.{arith}
use Rattle.std.proofs.lemmas.Grind.{common_steps}
use Rattle.sbx_domain.specs.Known.{known}
use Rattle.sbx_domain.specs.Refining.{refined}
use Rattle.sbx_domain.proofs.state.State.refine.Goals as goal

pub returns-in-Some-Compared-clause-refused : goal.returns-in-Some-Compared-clause-refused
returns-in-Some-Compared-clause-refused c = assumption

pub returns-in-Some-Signs-clause-refused : goal.returns-in-Some-Signs-clause-refused
returns-in-Some-Signs-clause-refused c = assumption

pub returns-in-None-clause-answer : goal.returns-in-None-clause-answer
unfolding refined known
returns-in-None-clause-answer c = grind (arith, common_steps)

pub returns-in-Some-Signs-clause-answer : goal.returns-in-Some-Signs-clause-answer
unfolding refined known
returns-in-Some-Signs-clause-answer c = grind (arith, common_steps)

pub returns-in-Some-Compared-clause-answer : goal.returns-in-Some-Compared-clause-answer
unfolding refined known
returns-in-Some-Compared-clause-answer c = grind (arith, common_steps)
