use Rattle.v8_routines.proofs.OverflowLaw.{overflow_law}
use Rattle.v8_routines.proofs.overflow.overflow_handler_spills.Goals as goal

pub returns : goal.returns
returns c = overflow_law
