use Rattle.std.proofs.Common.{◌≡◌, length}
use Rattle.flat_plain.proofs.Reached.{Reaches}
use Rattle.flat_plain.proofs.machine.Plain.run.Given as goal

abbrev pub invariant-loop-count : goal.invariant-loop-count
invariant-loop-count l = record {
  reached : Reaches l.image l.fn.self l.path.items l.self;
  steps : length l.path.items ≡ l._count;
}
