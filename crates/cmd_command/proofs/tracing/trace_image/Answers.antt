use Rattle.std.proofs.lemmas.Result.{err_from_is_err_and}
use Rattle.cmd_command.proofs.Traces.{left_by_input, left_in_run, of_input, of_run, taken_whole, traced_on}
use Rattle.cmd_command.proofs.tracing.trace_image.Goals as goal

pub returns-in_err-bytes-clause-stop : goal.returns-in_err-bytes-clause-stop
returns-in_err-bytes-clause-stop g c =
    let p = err_from_is_err_and c.from_residual.result c.from_residual.ensures.1 in
    rw (p.1, p.2) (of_input c.in_err-bytes.field-0.0 c.in_err-bytes.ensures.stop)

pub returns-in_err-bytes-clause-left : goal.returns-in_err-bytes-clause-left
returns-in_err-bytes-clause-left g c =
    let p = err_from_is_err_and c.from_residual.result c.from_residual.ensures.1 in
    rw (p.1, p.2) (λ file read. left_by_input c.args.windows c.args.limit file (g.I.Read.remaining c.args.input.now) (g.O.Write.contents c.args.out.now)
    c.args.image.now c.in_err-bytes.field-0.0 read c.in_err-bytes.ensures.stop)

pub returns-in-Ok-clause-traced : goal.returns-in-Ok-clause-traced
returns-in-Ok-clause-traced g c =
    let input = g.I.Read.remaining c.args.input.now in
    let whole = taken_whole input c.as_slice.result.now c.in_ok-bytes.bytes.items c.as_slice.ensures.value c.in_ok-bytes.ensures.whole in
    λ file read. traced_on c.args.windows c.args.limit file input (g.O.Write.contents c.args.out.now) (g.O.Write.contents c.trace_windows.new.out)
    c.args.image.now c.as_slice.result.now c.in-Ok._outcome read whole c.in-Ok.ensures

pub returns-clause-stop : goal.returns-clause-stop
returns-clause-stop g c = of_run c.in-Err.fault c.from.result c.from.ensures

pub returns-clause-left : goal.returns-clause-left
returns-clause-left g c =
    let input = g.I.Read.remaining c.args.input.now in
    let whole = taken_whole input c.as_slice.result.now c.in_ok-bytes.bytes.items c.as_slice.ensures.value c.in_ok-bytes.ensures.whole in
    λ file read. left_in_run c.args.windows c.args.limit file input (g.O.Write.contents c.args.out.now) (g.O.Write.contents c.trace_windows.new.out)
    c.args.image.now c.as_slice.result.now c.in-Err.fault c.from.result read whole c.in-Err.ensures c.from.ensures
