use Rattle.std.proofs.lemmas.Result.{err_from_is_err_and}
use Rattle.cmd_filing.specs.Files.{BeginsListing}
use Rattle.cmd_filing.proofs.Fronts.{left_early}
use Rattle.cmd_filing.proofs.listing.list_file.Goals as goal

pub returns-in_err-image-clause-left : goal.returns-in_err-image-clause-left
returns-in_err-image-clause-left g c =
    let p = err_from_is_err_and c.from_residual.result c.from_residual.ensures.1 in
    rw (p.1, p.2) (left_early BeginsListing (g.F.Read.remaining c.args.file.now) (g.O.Write.contents c.args.out.now) c.in_err-image.field-0.0 c.in_err-image.ensures.early)
