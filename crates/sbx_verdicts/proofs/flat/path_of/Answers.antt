use Rattle.std.proofs.Common.{rules}
use Rattle.sbx_verdicts.proofs.Exits.{exits_so}
use Rattle.sbx_verdicts.proofs.flat.path_of.Goals as goal

pub returns-in-Exit-clause-exits : goal.returns-in-Exit-clause-exits
returns-in-Exit-clause-exits c =
    exits_so c.args.image.now c.args.run.now c.args.fill c.most_steps.result c.in_ok-machine.machine c.run.new.self c.in_ok-path.field-0.path.items
    c.in_ok-path.field-0.ending c.in-Exit.status c.as_slice.result.now c.output.result.now
    c.as_slice.ensures.value c.in_ok-machine.ensures c.in_ok-path.ensures (cc (c.in-Exit.is, c.in_ok-path.ending-is)) (search rules) (search rules)
    (search rules)
