use Rattle.std.proofs.lemmas.Result.{err_from_is_err_and}
use Rattle.geyserpan.proofs.admitting.admit.Goals as goal

pub returns-in_err-accepted-clause-denied : goal.returns-in_err-accepted-clause-denied
returns-in_err-accepted-clause-denied c =
    let p = err_from_is_err_and c.from_residual.result c.from_residual.ensures.1 in
    rw (p.1, p.2) (c.in_err-accepted.ensures.denied c.args.terms.now)
