use Rattle.inspect_run.proofs.Told.{Watching}
use Rattle.inspect_run.proofs.watch.watch_turns.Given as goal

-- the turns so far were told
abbrev pub invariant-loop-done : goal.invariant-loop-done
invariant-loop-done g l =
    Watching g.row.N l.functions l.initial.board.state l.board.state l.done (g.W.Write.contents l.initial.out) (g.W.Write.contents l.out)
