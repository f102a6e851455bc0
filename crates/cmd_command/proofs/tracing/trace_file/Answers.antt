use Rattle.cmd_command.proofs.Traces.{image_of, left_before, left_of, stop_of_trace, traced_of, untouched_by_trace}
use Rattle.std.proofs.lemmas.Result.{err_from_is_err_and}
use Rattle.cmd_command.proofs.tracing.trace_file.Goals as goal

pub returns-clause-image : goal.returns-clause-image
returns-clause-image g c =
    image_of _ (g.F.Read.remaining c.args.file.now) c.in_ok-image.image c.trace_image.result c.in_ok-image.ensures.image c.trace_image.ensures.traced

pub returns-clause-traced : goal.returns-clause-traced
returns-clause-traced g c =
    traced_of c.args.windows c.args.limit (g.F.Read.remaining c.args.file.now) (g.I.Read.remaining c.args.input.now) (g.O.Write.contents c.args.out.now)
    (g.O.Write.contents c.trace_image.new.out) c.in_ok-image.image c.trace_image.result c.in_ok-image.ensures.image c.trace_image.ensures.traced

pub returns-clause-stop : goal.returns-clause-stop
returns-clause-stop g c = stop_of_trace (g.F.Read.remaining c.args.file.now) c.trace_image.result c.trace_image.ensures.stop

pub returns-clause-untouched : goal.returns-clause-untouched
returns-clause-untouched g c = untouched_by_trace _ c.trace_image.result c.trace_image.ensures.stop

pub returns-clause-left : goal.returns-clause-left
returns-clause-left g c =
    left_of c.args.windows c.args.limit (g.F.Read.remaining c.args.file.now) (g.I.Read.remaining c.args.input.now) (g.O.Write.contents c.args.out.now)
    (g.O.Write.contents c.trace_image.new.out) c.in_ok-image.image c.trace_image.result c.in_ok-image.ensures.image c.trace_image.ensures.left

pub returns-in_err-image-clause-left : goal.returns-in_err-image-clause-left
returns-in_err-image-clause-left g c =
    let p = err_from_is_err_and c.from_residual.result c.from_residual.ensures.1 in
    rw (p.1, p.2) (left_before c.args.windows c.args.limit (g.F.Read.remaining c.args.file.now) (g.I.Read.remaining c.args.input.now) (g.O.Write.contents c.args.out.now)
    c.in_err-image.field-0.0 c.in_err-image.ensures.early)
