use Rattle.std.proofs.Common.{arith}
use Rattle.std.proofs.lemmas.Grind.{common_steps}
use Rattle.std.proofs.lemmas.Result.{err_from_is_err_and}
use Rattle.inspect_run.proofs.Told.{not_begun, watch_told}
use Rattle.inspect_run.proofs.watch.watch_on.Goals as goal

pub returns-in_err-board : goal.returns-in_err-board
returns-in_err-board g c =
    let p = err_from_is_err_and c.from_residual.result c.from_residual.ensures.1 in
    rw (p.1, p.2) (not_begun c.args.windows c.args.image.now c.args.input.now c.args.limit (g.W.Write.contents c.args.out.now) c.in_err-board.field-0.0 c.in_err-board.ensures.fault)

pub returns : goal.returns
returns g c =
    watch_told g.row.N c.args.windows c.args.image.now c.args.input.now c.args.limit c.in_ok-board.board.state c.functions-functions.result.now
    (g.W.Write.contents c.args.out.now) (g.W.Write.contents c.watch_board.new.out) c.watch_board.result
    c.requires.same c.functions-functions.ensures.value c.in_ok-board.ensures.begun c.watch_board.ensures.whole c.watch_board.ensures.part c.watch_board.ensures.fault

pub watch_board-requires : goal.watch_board-requires
watch_board-requires g c = grind (arith, common_steps)

pub begun-requires : goal.begun-requires
begun-requires g c = grind (arith, common_steps)
