use Rattle.cmd_command.proofs.Streamed.{known_inputs_are_answered}
use Rattle.cmd_command.proofs.laws.known_inputs_are_answered.Goals as goal

pub returns : goal.returns
returns c = known_inputs_are_answered
