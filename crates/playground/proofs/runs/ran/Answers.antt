use Rattle.playground.proofs.runs.ran.Goals as goal

pub returns-clause-none : goal.returns-clause-none
returns-clause-none c = c.denied_by.ensures c.args.bytes.now
