use Rattle.std.proofs.Common.{◌≡◌}
use Rattle.v8_core.specs.Answers.{Grows}
use Rattle.v8_board.specs.Calls.{calls_in}
use Rattle.v8_board.proofs.Running.{Counted}
use Rattle.v8_board.proofs.board.Board.run.Given as goal

abbrev pub invariant-loop-done : goal.invariant-loop-done
invariant-loop-done g l = Counted g.row.N l.initial.self.state l.self.state l.done × (l.self.failed ≡ l.initial.self.failed)
    × Grows (calls_in g.row.N l.done l.initial.self.state) l.initial.self.calls l.self.calls
