use Rattle.v8_routines.proofs.Served.{get_law}
use Rattle.v8_routines.proofs.services.get_gives_the_next_byte.Goals as goal

pub returns : goal.returns
returns c = get_law
