use Rattle.inspect.proofs.Telling.{ran_if}
use Rattle.inspect.proofs.commands.run_image.Goals as goal

pub returns-clause-ran : goal.returns-clause-ran
returns-clause-ran g c =
    ran_if c.args.form c.args.windows c.args.limit (g.F.Read.remaining c.args.file.now) (g.I.Read.remaining c.args.input.now) (g.O.Write.contents c.args.out.now)
    (g.O.Write.contents c.run_read.new.out) c.in_ok-image.image c.run_read.result c.in_ok-image.ensures.image c.run_read.ensures.told
