use Rattle.std.proofs.Common.{rules}
use Rattle.engine_runs.proofs.Counted.{filled, popped, pushed, spilled}
use Rattle.engine_runs.proofs.counts.count_word.Goals as goal

pub returns-then-traffic-n-clause-value : goal.returns-then-traffic-n-clause-value
returns-then-traffic-n-clause-value c = λ few some weighs. spilled c.args.n c.args.next.now.operation c.in-Save.field-0 c.args.traffic c.in-Save.is (search rules)

pub returns-else-traffic-n-clause-value : goal.returns-else-traffic-n-clause-value
returns-else-traffic-n-clause-value c = λ few some weighs. pushed c.args.n c.args.next.now.operation c.in-Save.field-0 c.args.traffic c.in-Save.is (search rules)

pub returns-then-traffic-eq1-clause-value : goal.returns-then-traffic-eq1-clause-value
returns-then-traffic-eq1-clause-value c = λ few some weighs. filled c.args.n c.args.next.now.operation c.in-Restore.field-0 c.args.traffic c.in-Restore.is (search rules)

pub returns-else-traffic-eq1-clause-value : goal.returns-else-traffic-eq1-clause-value
returns-else-traffic-eq1-clause-value c = λ few some weighs. popped c.args.n c.args.next.now.operation c.in-Restore.field-0 c.args.traffic c.in-Restore.is (search rules)
