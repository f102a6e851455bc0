use Rattle.std.proofs.lemmas.Result.{err_from_is_err_and}
use Rattle.sbx_reader.proofs.Resuming.{item_lacks, item_faulty}
use Rattle.sbx_reader.proofs.feeding.read_on.Goals as goal

pub returns-in_err-behind : goal.returns-in_err-behind
returns-in_err-behind c =
    let p = err_from_is_err_and c.from_residual.result c.from_residual.ensures.1 in
    rw (p.1, p.2) (item_faulty c.loop-behind.next c.loop-behind.place c.args.bytes.now _ c.loop-behind.invariant c.in_err-behind.ensures)

pub returns : goal.returns
returns c = item_lacks c.loop-behind.next c.loop-behind.place c.args.bytes.now _ c.loop-behind.invariant c.in_default.is c.in_ok-behind.ensures
