use Rattle.std.proofs.Common.{rules}
use Rattle.cmd_command.proofs.Verdicts.{stops_for}
use Rattle.cmd_command.proofs.commands.command.Goals as goal

pub returns-in-Err-clause-done : goal.returns-in-Err-clause-done
returns-in-Err-clause-done g c = search rules

pub returns-in-Err-clause-ran : goal.returns-in-Err-clause-ran
returns-in-Err-clause-ran g c = search rules

pub returns-in-Err-clause-quiet : goal.returns-in-Err-clause-quiet
returns-in-Err-clause-quiet g c = search rules

pub returns-in-Ok-clause-stopped : goal.returns-in-Ok-clause-stopped
returns-in-Ok-clause-stopped g c = search rules

pub returns-in-Err-clause-stopped : goal.returns-in-Err-clause-stopped
returns-in-Err-clause-stopped g c = λ late. stops_for _ _ _ _ c.in-Err.stop _ c.report.ensures.status (search rules) (search rules)
    (c.in-Err.ensures.left, c.report.ensures.told)
