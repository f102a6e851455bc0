use Rattle.v8_routines.proofs.Served.{exit_law}
use Rattle.v8_routines.proofs.services.exit_stops_the_machine.Goals as goal

pub returns : goal.returns
returns c = exit_law
