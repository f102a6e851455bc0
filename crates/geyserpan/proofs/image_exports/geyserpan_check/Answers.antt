use Rattle.geyserpan.proofs.image_exports.geyserpan_check.Goals as goal

pub returns-in-Err-clause-denied : goal.returns-in-Err-clause-denied
returns-in-Err-clause-denied c = λ terms. c.tell.ensures.denied c.args.image.now terms (c.in-Err.ensures.denied terms)
