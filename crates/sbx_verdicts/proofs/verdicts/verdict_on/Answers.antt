use Rattle.sbx_verdicts.proofs.Answered.{accepted_of}
use Rattle.sbx_verdicts.proofs.verdicts.verdict_on.Goals as goal

pub returns-in-Ok : goal.returns-in-Ok
returns-in-Ok c = accepted_of c.args.bytes.now c.in_ok-image.image c.in-Ok.accepted c.in_ok-image.ensures.read c.in-Ok.ensures.accepted
