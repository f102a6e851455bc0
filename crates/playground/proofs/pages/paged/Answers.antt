use Rattle.playground.proofs.pages.paged.Goals as goal

pub returns-in-Err-clause-none : goal.returns-in-Err-clause-none
returns-in-Err-clause-none c = c.denied_by.ensures c.args.bytes.now
