use Rattle.cmd_command.proofs.Traces.{of_run}
use Rattle.inspect.proofs.Telling.{wrote_on}
use Rattle.inspect.proofs.commands.trace_on.Goals as goal

pub returns-in-Ok-clause-told : goal.returns-in-Ok-clause-told
returns-in-Ok-clause-told g c =
    wrote_on c.count.result c.args.windows c.args.limit c.args.image.now c.args.input.now (g.O.Write.contents c.args.out.now)
    (g.O.Write.contents c.watch_windows.new.out) c.count.ensures.value c.in-Ok.ensures

pub returns-in-Err-clause-stop : goal.returns-in-Err-clause-stop
returns-in-Err-clause-stop g c = of_run c.in-Err.fault c.from.result c.from.ensures
