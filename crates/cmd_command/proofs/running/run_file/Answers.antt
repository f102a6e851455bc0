use Rattle.std.proofs.lemmas.Result.{err_from_is_err_and}
use Rattle.cmd_command.proofs.Streamed.{early_left}
use Rattle.cmd_command.proofs.running.run_file.Goals as goal

pub returns-in_err-accepted-clause-left : goal.returns-in_err-accepted-clause-left
returns-in_err-accepted-clause-left g c =
    let p = err_from_is_err_and c.from_residual.result c.from_residual.ensures.1 in
    rw (p.1, p.2) (early_left (g.F.Read.remaining c.args.file.now) (g.I.Read.remaining c.args.input.now) (g.O.Write.contents c.args.out.now) c.in_err-accepted.field-0.0
    c.in_err-accepted.ensures.early)
