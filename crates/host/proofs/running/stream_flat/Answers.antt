use Rattle.host.proofs.Machines.{flow_at}
use Rattle.host.proofs.running.stream_flat.Goals as goal

pub returns : goal.returns
returns g c =
    flow_at c.count.result c.args.windows c.args.accepted.now (g.I.Read.remaining c.args.input.now) (g.I.Read.remaining c.run_over.new.reader)
    (g.O.Write.contents c.args.out.now) (g.O.Write.contents c.run_over.new.writer) c.run_over.result
    c.count.ensures.value c.run_over.ensures.whole c.run_over.ensures.part
