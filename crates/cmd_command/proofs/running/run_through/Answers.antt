use Rattle.std.proofs.lemmas.Result.{err_from_is_err_and}
use Rattle.cmd_command.proofs.Streamed.{ended, faulted, whole_front}
use Rattle.cmd_command.proofs.running.run_through.Goals as goal

pub returns-in_err-finished-clause-left : goal.returns-in_err-finished-clause-left
returns-in_err-finished-clause-left g c =
    let p = err_from_is_err_and c.from_residual.result c.from_residual.ensures.1 in
    rw p.1 (faulted c.args.windows c.args.accepted.now (g.I.Read.remaining c.args.input.now) (g.I.Read.remaining c.stream_windows.new.input) (g.O.Write.contents c.args.out.now)
    (g.O.Write.contents c.stream_windows.new.out) c.in_err-finished.field-0.0 p.0 c.in_err-finished.ensures p.2)

pub returns-in-Ok-clause-ran : goal.returns-in-Ok-clause-ran
returns-in-Ok-clause-ran g c =
    ended c.args.windows c.args.accepted.now (g.I.Read.remaining c.args.input.now) (g.I.Read.remaining c.stream_windows.new.input) (g.O.Write.contents c.args.out.now)
    (g.O.Write.contents c.stream_windows.new.out) (g.O.Write.contents c.flush.new.self) c.in_ok-finished.finished c.status_of_word.result c.in_ok-finished.ensures
    c.flush.ensures.bytes c.status_of_word.ensures

pub returns-clause-left : goal.returns-clause-left
returns-clause-left g c =
    whole_front c.args.windows c.args.accepted.now (g.I.Read.remaining c.args.input.now) (g.I.Read.remaining c.stream_windows.new.input) (g.O.Write.contents c.args.out.now)
    (g.O.Write.contents c.stream_windows.new.out) (g.O.Write.contents c.flush.new.self) c.in_ok-finished.finished c.in_ok-finished.ensures
    c.flush.ensures.bytes
