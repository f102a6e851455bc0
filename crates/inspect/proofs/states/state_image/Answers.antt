use Rattle.cmd_command.proofs.Traces.{stop_of_trace}
use Rattle.inspect.proofs.Stated.{stated_if}
use Rattle.inspect.proofs.states.state_image.Goals as goal

pub returns-clause-told : goal.returns-clause-told
returns-clause-told g c =
    stated_if c.args.windows c.args.limit (g.F.Read.remaining c.args.file.now) (g.I.Read.remaining c.args.input.now) (g.O.Write.contents c.args.out.now)
    (g.O.Write.contents c.states_read.new.out) c.in_ok-image.image c.states_read.result c.in_ok-image.ensures.image c.states_read.ensures.told

pub returns-clause-stop : goal.returns-clause-stop
returns-clause-stop g c = stop_of_trace (g.F.Read.remaining c.args.file.now) c.states_read.result c.states_read.ensures.stop
