use Rattle.cmd_filing.proofs.assembling.tells_fields.Goals as goal

pub returns : goal.returns
returns c = c.keeps_its_format.ensures.typed
