use Rattle.std.proofs.Common.{rules}
use Rattle.geyserpan.proofs.run_exports.geyserpan_begin.Goals as goal

pub returns-in-Some-clause-windows : goal.returns-in-Some-clause-windows
returns-in-Some-clause-windows c = λ others. (c.in-Some.kept, search rules, c.begin.ensures.windows others)
