use Rattle.inspect.specs.Told.{TellsRun}
use Rattle.inspect.proofs.Telling.{on_all}
use Rattle.inspect.proofs.commands.run_read.Goals as goal

pub returns-clause-told : goal.returns-clause-told
returns-clause-told g c =
    on_all (λ all. TellsRun c.args.form c.args.windows c.args.limit c.args.image.now all (g.O.Write.contents c.args.out.now) (g.O.Write.contents c.run_on.new.out))
    (g.I.Read.remaining c.args.input.now) c.in_ok-bytes.bytes.items c.as_slice.result.now c.run_on.result c.in_ok-bytes.ensures.whole c.as_slice.ensures.value c.run_on.ensures.told
