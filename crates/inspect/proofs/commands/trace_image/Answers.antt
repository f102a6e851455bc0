use Rattle.cmd_command.proofs.Traces.{stop_of_trace}
use Rattle.inspect.proofs.Telling.{traced_if}
use Rattle.inspect.proofs.commands.trace_image.Goals as goal

pub returns-clause-traced : goal.returns-clause-traced
returns-clause-traced g c =
    traced_if c.args.windows c.args.limit (g.F.Read.remaining c.args.file.now) (g.I.Read.remaining c.args.input.now) (g.O.Write.contents c.args.out.now)
    (g.O.Write.contents c.trace_read.new.out) c.in_ok-image.image c.trace_read.result c.in_ok-image.ensures.image c.trace_read.ensures.told

pub returns-clause-stop : goal.returns-clause-stop
returns-clause-stop g c = stop_of_trace (g.F.Read.remaining c.args.file.now) c.trace_read.result c.trace_read.ensures.stop
