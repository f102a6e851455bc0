use Rattle.std.proofs.Common.{◌≤◌, ◌+◌, length}
use Rattle.inspect_cycles.proofs.reading.read_table.Given as goal

-- Each line that was read has at least its end, so that there are no more of them than bytes.
abbrev pub invariant-loop-rest : goal.invariant-loop-rest
invariant-loop-rest l = record { few : l.number + length l.rest ≤ length l.file }

abbrev pub decreases-loop-rest : goal.decreases-loop-rest
decreases-loop-rest l = length l.rest
