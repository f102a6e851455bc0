use Rattle.cmd_command.specs.Verdicts.{HasGiven, HasStopped}
use Rattle.cmd_command.proofs.Verdicts.{without_line}
use Rattle.cmd_command.proofs.commands.exit_status.Goals as goal

pub returns-clause-done : goal.returns-clause-done
returns-clause-done g c = c.command.ensures.done

pub returns-clause-ran : goal.returns-clause-ran
unfolding HasGiven
returns-clause-ran g c = c.command.ensures.ran

pub returns-clause-stopped : goal.returns-clause-stopped
unfolding HasStopped
returns-clause-stopped g c = λ late. without_line _ _ _ _ _ _ (c.command.ensures.stopped late)
