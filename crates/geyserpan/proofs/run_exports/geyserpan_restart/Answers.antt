use Rattle.std.proofs.Common.{inl, inr, rules}
use Rattle.geyserpan.proofs.run_exports.geyserpan_restart.Goals as goal

pub returns-in-Some-clause-windows : goal.returns-in-Some-clause-windows
returns-in-Some-clause-windows c = λ others. (c.in-Some.kept, search rules, c.restart.ensures.windows others)

pub returns-in-Some-clause-empty : goal.returns-in-Some-clause-empty
returns-in-Some-clause-empty c = λ none. (let gone = c.restart.ensures.empty none in inr (search rules))

pub returns-in-None-clause-empty : goal.returns-in-None-clause-empty
returns-in-None-clause-empty c = λ none. inl (search rules)
