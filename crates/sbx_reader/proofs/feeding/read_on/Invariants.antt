use Rattle.std.proofs.Common.{◌-◌, length}
use Rattle.sbx_reader.specs.Stages.{GoesOn}
use Rattle.sbx_reader.proofs.feeding.read_on.Given as goal

abbrev pub invariant-loop-behind : goal.invariant-loop-behind
invariant-loop-behind l = GoesOn l.next l.place l.bytes

abbrev pub decreases-loop-behind : goal.decreases-loop-behind
decreases-loop-behind l = length l.bytes - l.place
