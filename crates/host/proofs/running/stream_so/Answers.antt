use Rattle.host.proofs.Machines.{board_told}
use Rattle.host.proofs.running.stream_so.Goals as goal

pub returns-in-Ok-stream_windows : goal.returns-in-Ok-stream_windows
returns-in-Ok-stream_windows g c =
    board_told c.args.terms.now.engine c.args.terms.now.windows c.args.accepted.now (g.I.Read.remaining c.args.input.now) (g.I.Read.remaining c.stream_windows.new.input)
    (g.O.Write.contents c.args.out.now) (g.O.Write.contents c.stream_windows.new.out)
    c.in-Ok-stream_windows.finished c.told_by_board.result c.if-terms.false c.told_by_board.ensures c.in-Ok-stream_windows.ensures
