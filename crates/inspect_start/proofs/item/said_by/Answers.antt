use Rattle.inspect_start.proofs.item.said_by.Goals as goal

pub returns-in-Some-number-clause-right : goal.returns-in-Some-number-clause-right
returns-in-Some-number-clause-right c = c.behind_address.ensures.right c.args.windows
