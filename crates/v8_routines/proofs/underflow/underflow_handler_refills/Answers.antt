use Rattle.v8_routines.proofs.UnderflowLaw.{underflow_law}
use Rattle.v8_routines.proofs.underflow.underflow_handler_refills.Goals as goal

pub returns : goal.returns
returns c = underflow_law
