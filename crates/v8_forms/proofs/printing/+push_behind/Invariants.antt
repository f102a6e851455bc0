use Rattle.std.specs.Prelude.{length}
use Rattle.v8_forms.proofs.printing.+push_behind.Given as goal

abbrev pub decreases-push_behind : goal.decreases-push_behind
decreases-push_behind l = length l.parts.now
