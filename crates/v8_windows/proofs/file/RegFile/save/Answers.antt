use Rattle.std.proofs.Common.{rules}
use Rattle.v8_windows.specs.Windows.{can_enter}
use Rattle.v8_windows.proofs.file.RegFile.save.Goals as goal

pub returns-then-allows-clause-answer : goal.returns-then-allows-clause-answer
unfolding can_enter
returns-then-allows-clause-answer c = search rules

pub returns-then-allows-clause-change : goal.returns-then-allows-clause-change
unfolding can_enter
returns-then-allows-clause-change c = search rules

pub returns-else-allows-clause-answer : goal.returns-else-allows-clause-answer
unfolding can_enter
returns-else-allows-clause-answer c = search rules
