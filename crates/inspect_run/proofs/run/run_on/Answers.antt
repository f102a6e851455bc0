use Rattle.std.proofs.Common.{arith}
use Rattle.std.proofs.lemmas.Grind.{common_steps}
use Rattle.std.proofs.lemmas.Result.{IfOk-weaker}
use Rattle.inspect_run.proofs.Sliced.{told_on}
use Rattle.inspect_run.proofs.run.run_on.Goals as goal

pub returns-clause-run : goal.returns-clause-run
returns-clause-run g c =
    IfOk-weaker c.run_board.result _ _ (λ run is. told_on g.row.N c.args.windows c.args.image.now c.args.input.now c.args.limit c.in_ok-board.board.state
    c.run_board.new.board.state run c.requires.same c.in_ok-board.ensures.begun c.in_ok-board.ensures.contained is) c.run_board.ensures.run

pub returns-clause-fault : goal.returns-clause-fault
returns-clause-fault g c = assumption

pub run_board-requires : goal.run_board-requires
run_board-requires g c = grind (arith, common_steps)

pub begun-requires : goal.begun-requires
begun-requires g c = grind (arith, common_steps)
