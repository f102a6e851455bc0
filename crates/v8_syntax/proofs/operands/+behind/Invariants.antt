use Rattle.std.specs.Prelude.{length}
use Rattle.v8_syntax.proofs.operands.+behind.Given as goal

abbrev pub decreases-behind : goal.decreases-behind
decreases-behind g l = length l.parts.now
