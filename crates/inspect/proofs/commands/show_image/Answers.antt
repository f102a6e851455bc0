use Rattle.inspect.proofs.Telling.{shown_if}
use Rattle.inspect.proofs.commands.show_image.Goals as goal

pub returns-clause-shown : goal.returns-clause-shown
returns-clause-shown g c =
    shown_if c.args.form (g.F.Read.remaining c.args.file.now) (g.O.Write.contents c.args.out.now) (g.O.Write.contents c.show.new.out) c.in_ok-image.image
    c.show.result c.in_ok-image.ensures.image c.show.ensures.shown
