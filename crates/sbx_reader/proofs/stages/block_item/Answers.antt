use Rattle.std.proofs.lemmas.Result.{err_from_is_err_and}
use Rattle.sbx_reader.proofs.Resuming.{block_reads, block_ok, block_err, whole_ok, whole_err}
use Rattle.sbx_reader.proofs.stages.block_item.Goals as goal

pub returns-in_err-next : goal.returns-in_err-next
returns-in_err-next c =
    let p = err_from_is_err_and c.from_residual.result c.from_residual.ensures.1 in
    rw (p.1, p.2)
    (whole_err _ _ _ (block_reads c.args.version c.args.end c.args.left c.args.place.1 c.args.blocks c.args.place.0) c.args.bytes.now _
    (λ kept. block_err _ _ _ _ (c.in_err-next.ensures kept)))

pub returns : goal.returns
returns c = whole_ok _ _ _ (block_reads c.args.version c.args.end c.args.left c.args.place.1 c.args.blocks c.args.place.0) c.args.bytes.now _ _ _
    (block_ok _ _ _ _ c.in_ok-next.ensures) c.read_of.ensures
