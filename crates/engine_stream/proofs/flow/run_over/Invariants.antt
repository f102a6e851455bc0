use Rattle.std.proofs.Common.{◌≤◌, ◌^◌}
use Rattle.sbx_port.specs.Streams.{Streamed}
use Rattle.engine_stream.specs.Flows.{Flows}
use Rattle.engine_stream.proofs.flow.run_over.Given as goal

-- What was read and written so far the run has read and written. Each round makes turns.
abbrev pub invariant-rounds : goal.invariant-rounds
invariant-rounds g l = record {
  goes : Streamed (g.R.Read.remaining l.fn.reader) (g.R.Read.remaining l.reader) (g.W.Write.contents l.fn.writer) (g.W.Write.contents l.writer) (Flows l.accepted l.windows l.met l.course);
  rounds : l._round ≤ l.course.tally.traffic.turns;
  turns : l.course.tally.traffic.turns ≤ 2 ^ 62;
}
