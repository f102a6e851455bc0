use Rattle.std.specs.Prelude.{length}
use Rattle.v8_syntax.proofs.names.+numbered.Given as goal

abbrev pub decreases-numbered : goal.decreases-numbered
decreases-numbered l = length l.suffixes.now
