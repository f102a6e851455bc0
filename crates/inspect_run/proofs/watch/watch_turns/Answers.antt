use Rattle.std.proofs.Common.{sym, ◌∙◌, arith}
use Rattle.std.proofs.lemmas.Result.{err_from_is_err_and}
use Rattle.inspect_run.proofs.Told.{ended_watch, nothing_told, one_watched_more, watch_begun, whole_watch}
use Rattle.inspect_run.proofs.watch.watch_turns.Goals as goal

pub loop-done-init : goal.loop-done-init
loop-done-init g c = nothing_told g.row.N c.args.functions.now c.args.board.now.state (g.W.Write.contents c.args.out.now)

pub returns-in_default-clause-whole : goal.returns-in_default-clause-whole
returns-in_default-clause-whole g c =
    ended_watch g.row.N c.args.functions.now c.args.limit c.loop-done.done c.args.board.now.state c.loop-done.board.state (g.W.Write.contents c.args.out.now)
    (g.W.Write.contents c.loop-done.out) c.loop-done.invariant (omega arith) (λ none. c.in_default.not-None (c.ending.ensures ∙ none))

pub returns-clause-whole : goal.returns-clause-whole
returns-clause-whole g c =
    whole_watch g.row.N c.args.functions.now c.args.limit c.loop-done.done c.args.board.now.state c.loop-done.board.state (g.W.Write.contents c.args.out.now)
    (g.W.Write.contents c.loop-done.out) c.loop-done.invariant (omega arith)

pub loop-done-preserved : goal.loop-done-preserved
loop-done-preserved g c =
    one_watched_more g.row.N c.args.functions.now c.args.board.now.state c.loop-done.board.state c.watch_turn.new.board.state c.loop-done.done
    (g.W.Write.contents c.args.out.now) (g.W.Write.contents c.loop-done.out) (g.W.Write.contents c.watch_turn.new.out)
    c.loop-done.invariant (sym c.ending.ensures ∙ c.in-None.is) c.in_ok-watch_turn.ensures.whole

pub returns-in_err-watch_turn-clause-part : goal.returns-in_err-watch_turn-clause-part
returns-in_err-watch_turn-clause-part g c =
    let p = err_from_is_err_and c.from_residual.result c.from_residual.ensures.1 in
    rw p.1 (watch_begun g.row.N c.args.functions.now c.args.limit c.loop-done.done c.args.board.now.state c.loop-done.board.state
    (g.W.Write.contents c.args.out.now) (g.W.Write.contents c.loop-done.out) (g.W.Write.contents c.watch_turn.new.out)
    c.loop-done.invariant (sym c.ending.ensures ∙ c.in-None.is) (omega arith) c.in_err-watch_turn.ensures.part)

pub ending-requires : goal.ending-requires
ending-requires g c = assumption

pub watch_turn-requires : goal.watch_turn-requires
watch_turn-requires g c = assumption
