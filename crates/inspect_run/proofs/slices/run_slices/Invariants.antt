use Rattle.std.proofs.Common.{◌*◌}
use Rattle.v8_board.specs.Runs.{IsRun}
use Rattle.inspect_run.proofs.slices.run_slices.Given as goal

-- the slices so far are one run
abbrev pub invariant-loop : goal.invariant-loop
invariant-loop g l = IsRun g.row.N (l.counter * 4194304) l.initial.board.state l.board.state
