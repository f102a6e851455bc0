use Rattle.std.proofs.Common.{length}
use Rattle.fit_kept.proofs.inserting.insert.Given as goal

abbrev pub decreases-lines : goal.decreases-lines
decreases-lines l = length l.rest
