use Rattle.std.proofs.Common.{◌≡◌, [], drop}
use Rattle.v8_loaded.specs.States.{IsState}
use Rattle.v8_board.specs.Seen.{State}
use Rattle.v8_board.specs.Start.{IsNew}
use Rattle.sbx_raw.specs.Outputs.{without_output}
use Rattle.sbx_batch.proofs.Following.{Completes}
use Rattle.sbx_batch.proofs.batch.run_batch.Given as goal

-- The runs so far began on a new board, and with those of what is left they are those of the list. The board stands where they ended,
-- and what they put out was taken.
abbrev pub invariant-loop-each : goal.invariant-loop-each
invariant-loop-each g l = IsState g.row.N l.board.state.mmu l.board.state.world
    × ((made : State g.row.N) × (now : State g.row.N) × IsNew g.row.N [] [] made × (l.board.state ≡ without_output now)
    × Completes g.row.N made l.batch l.answers.items now (drop l.each-index l.batch))
