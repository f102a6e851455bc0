use Rattle.geyserpan.proofs.image_exports.geyserpan_once.Goals as goal

pub returns-in-Err-clause-longer : goal.returns-in-Err-clause-longer
returns-in-Err-clause-longer c = λ is. absurd (c.tell.ensures.grants is)

pub returns-in-Err-clause-small : goal.returns-in-Err-clause-small
returns-in-Err-clause-small c = λ is. absurd (c.tell.ensures.fits is)
