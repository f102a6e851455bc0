use Rattle.std.proofs.lemmas.Result.{err_from_is_err_and}
use Rattle.sbx_reader.proofs.Resuming.{function_reads, function_ok, head_err, params_err, results_err, whole_ok, whole_err}
use Rattle.sbx_reader.proofs.stages.function_item.Goals as goal

pub returns-in_err-head : goal.returns-in_err-head
returns-in_err-head c =
    let p = err_from_is_err_and c.from_residual.result c.from_residual.ensures.1 in
    rw (p.1, p.2)
    (whole_err _ _ _ (function_reads c.args.version c.args.end c.args.left c.args.place.1 c.args.place.0) c.args.bytes.now _
    (λ kept. head_err _ _ _ _ _ (c.in_err-head.ensures.reads kept)))

pub returns-in_err-rest : goal.returns-in_err-rest
returns-in_err-rest c =
    let p = err_from_is_err_and c.from_residual-in_err-rest.result c.from_residual-in_err-rest.ensures.1 in
    rw (p.1, p.2)
    (whole_err _ _ _ (function_reads c.args.version c.args.end c.args.left c.args.place.1 c.args.place.0) c.args.bytes.now _
    (λ kept. params_err _ _ _ _ _ _ c.in_ok-head.ensures.reads (c.in_err-rest.ensures kept)))

pub returns-in_err-rest-2 : goal.returns-in_err-rest-2
returns-in_err-rest-2 c =
    let p = err_from_is_err_and c.from_residual-in_err-rest-2.result c.from_residual-in_err-rest-2.ensures.1 in
    rw (p.1, p.2)
    (whole_err _ _ _ (function_reads c.args.version c.args.end c.args.left c.args.place.1 c.args.place.0) c.args.bytes.now _
    (λ kept. results_err _ _ _ _ _ _ _ c.in_ok-head.ensures.reads c.in_ok-rest.ensures (c.in_err-rest-2.ensures kept)))

pub returns : goal.returns
returns c = whole_ok _ _ _ (function_reads c.args.version c.args.end c.args.left c.args.place.1 c.args.place.0) c.args.bytes.now _ _ _
    (function_ok _ _ _ _ _ _ _ c.in_ok-head.ensures.reads c.in_ok-rest.ensures c.in_ok-rest-2.ensures) c.read_of.ensures
