use Rattle.std.proofs.Common.{◌≤◌, ◌^◌, length}
use Rattle.engine_runs.specs.Answer.{HasRead}
use Rattle.engine_runs.proofs.runs.run_over.Given as goal

-- What was read and written so far the run has read and written. Each round makes turns.
abbrev pub invariant-rounds : goal.invariant-rounds
invariant-rounds l = record {
  has : HasRead l.accepted l.windows l.input l.read l.output.items l.course;
  within : l.read ≤ length l.input;
  rounds : l._round ≤ l.course.tally.traffic.turns;
  turns : l.course.tally.traffic.turns ≤ 2 ^ 62;
}
