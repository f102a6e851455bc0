-- So many turns were made as there were rounds.
use Rattle.std.proofs.Common.{◌≡◌}
use Rattle.v8_board.specs.Runs.{state_after}
use Rattle.sbx_bench.proofs.ways.step.Given as goal

abbrev pub invariant-loop : goal.invariant-loop
invariant-loop l = l.board.state ≡ state_after 8 l.counter l.fn.board.state
