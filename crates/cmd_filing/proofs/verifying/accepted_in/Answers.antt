use Rattle.cmd_filing.proofs.Accepting.{accepted_of}
use Rattle.cmd_filing.proofs.verifying.accepted_in.Goals as goal

pub returns-in-Ok-clause-accepted : goal.returns-in-Ok-clause-accepted
returns-in-Ok-clause-accepted g c = accepted_of _ _ _ c.in_ok-image.ensures.image c.in-Ok.ensures.accepted
