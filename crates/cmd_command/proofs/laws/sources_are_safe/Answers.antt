use Rattle.cmd_command.proofs.Safe.{sources_are_safe}
use Rattle.cmd_command.proofs.laws.sources_are_safe.Goals as goal

pub returns : goal.returns
returns c = sources_are_safe
