use Rattle.inspect.proofs.Telling.{told_run}
use Rattle.inspect.proofs.commands.run_on.Goals as goal

pub returns-clause-told : goal.returns-clause-told
returns-clause-told g c =
    told_run c.args.form c.count-count.result c.args.windows c.args.limit c.args.image.now c.args.input.now (g.O.Write.contents c.args.out.now)
    (g.O.Write.contents c.tell_run.new.out) c.in_ok-run.run' c.tell_run.result c.count-count.ensures.value c.in_ok-run.ensures.run c.tell_run.ensures.told
