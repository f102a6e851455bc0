use Rattle.cmd_command.proofs.Streamed.{run_at}
use Rattle.cmd_command.proofs.streaming.stream_on.Goals as goal

pub returns : goal.returns
returns g c =
    run_at _ c.args.windows c.args.accepted.now (g.I.Read.remaining c.args.input.now) (g.I.Read.remaining c.run_stream.new.reader) (g.O.Write.contents c.args.out.now)
    (g.O.Write.contents c.run_stream.new.writer) c.run_stream.result c.requires.same c.run_stream.ensures.whole c.run_stream.ensures.part
