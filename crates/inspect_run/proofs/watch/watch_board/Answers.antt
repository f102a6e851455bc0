use Rattle.std.proofs.Common.{arith}
use Rattle.std.proofs.lemmas.Grind.{common_steps}
use Rattle.std.proofs.lemmas.Result.{err_from_is_err_and}
use Rattle.inspect_run.proofs.Told.{begins_run, flushed, last_begun, unflushed}
use Rattle.inspect_run.proofs.watch.watch_board.Goals as goal

pub returns-in-Ok-clause-whole : goal.returns-in-Ok-clause-whole
returns-in-Ok-clause-whole g c =
    flushed g.row.N c.args.functions.now c.args.limit c.args.board.now.state c.watch_turns.new.board.state (g.W.Write.contents c.args.out.now)
    (g.W.Write.contents c.watch_turns.new.out) (g.W.Write.contents c.watch_last.new.out) (g.W.Write.contents c.flush.new.self)
    c.in_ok-watch_turns.ensures.whole c.in_ok-watch_last.ensures.whole c.in-Ok.ensures.bytes

pub returns-clause-part : goal.returns-clause-part
returns-clause-part g c =
    unflushed g.row.N c.args.functions.now c.args.limit c.args.board.now.state c.watch_turns.new.board.state (g.W.Write.contents c.args.out.now)
    (g.W.Write.contents c.watch_turns.new.out) (g.W.Write.contents c.watch_last.new.out) (g.W.Write.contents c.flush.new.self)
    c.in_ok-watch_turns.ensures.whole c.in_ok-watch_last.ensures.whole c.in-Err.ensures.bytes

pub returns-in_err-watch_turns-clause-part : goal.returns-in_err-watch_turns-clause-part
returns-in_err-watch_turns-clause-part g c =
    let p = err_from_is_err_and c.from_residual.result c.from_residual.ensures.1 in
    rw p.1 (begins_run g.row.N c.args.functions.now c.args.limit c.args.board.now.state (g.W.Write.contents c.args.out.now)
    (g.W.Write.contents c.watch_turns.new.out) c.in_err-watch_turns.ensures.part)

pub returns-in_err-watch_last-clause-part : goal.returns-in_err-watch_last-clause-part
returns-in_err-watch_last-clause-part g c =
    let p = err_from_is_err_and c.from_residual-in_err-watch_last.result c.from_residual-in_err-watch_last.ensures.1 in
    rw p.1 (last_begun g.row.N c.args.functions.now c.args.limit c.args.board.now.state c.watch_turns.new.board.state (g.W.Write.contents c.args.out.now)
    (g.W.Write.contents c.watch_turns.new.out) (g.W.Write.contents c.watch_last.new.out) c.in_ok-watch_turns.ensures.whole c.in_err-watch_last.ensures.part)

pub new-teller-requires : goal.new-teller-requires
new-teller-requires g c = grind (arith, common_steps)

pub returns-clause-fault : goal.returns-clause-fault
returns-clause-fault g c = grind (arith, common_steps)

pub watch_turns-requires : goal.watch_turns-requires
watch_turns-requires g c = grind (arith, common_steps)
