use Rattle.std.proofs.Common.{rules}
use Rattle.std.proofs.lemmas.Result.{err_from_is_err_and}
use Rattle.cmd_filing.specs.Files.{BeginsVerdict}
use Rattle.cmd_filing.proofs.Fronts.{left_early}
use Rattle.cmd_filing.proofs.verifying.verify_file.Goals as goal

pub returns-clause-accepted : goal.returns-clause-accepted
returns-clause-accepted g c = search rules

pub returns-in-Ok-clause-accepted : goal.returns-in-Ok-clause-accepted
returns-in-Ok-clause-accepted g c = search rules

pub returns-clause-left : goal.returns-clause-left
returns-clause-left g c = search rules

pub returns-in_err-_accepted-clause-left : goal.returns-in_err-_accepted-clause-left
returns-in_err-_accepted-clause-left g c =
    let p = err_from_is_err_and c.from_residual.result c.from_residual.ensures.1 in
    rw (p.1, p.2) (left_early BeginsVerdict (g.F.Read.remaining c.args.file.now) (g.O.Write.contents c.args.out.now) c.in_err-_accepted.field-0.0 c.in_err-_accepted.ensures.early)
