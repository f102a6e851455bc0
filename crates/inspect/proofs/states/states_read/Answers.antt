use Rattle.std.proofs.lemmas.Result.{err_from_is_err_and}
use Rattle.cmd_command.proofs.Traces.{of_input}
use Rattle.sbx_raw.specs.Fronts.{Wrote}
use Rattle.inspect_states.specs.Told.{IsStated}
use Rattle.inspect.proofs.Telling.{on_all}
use Rattle.inspect.proofs.states.states_read.Goals as goal

pub returns-clause-told : goal.returns-clause-told
returns-clause-told g c =
    on_all (λ all. Wrote (g.O.Write.contents c.args.out.now) (g.O.Write.contents c.states_on.new.out) (IsStated c.args.windows c.args.image.now all c.args.limit))
    (g.I.Read.remaining c.args.input.now) c.in_ok-bytes.bytes.items c.as_slice.result.now c.states_on.result c.in_ok-bytes.ensures.whole
    c.as_slice.ensures.value c.states_on.ensures.told

pub returns-in_err-bytes-clause-stop : goal.returns-in_err-bytes-clause-stop
returns-in_err-bytes-clause-stop g c =
    let p = err_from_is_err_and c.from_residual.result c.from_residual.ensures.1 in
    rw (p.1, p.2) (of_input c.in_err-bytes.field-0.0 c.in_err-bytes.ensures.stop)
