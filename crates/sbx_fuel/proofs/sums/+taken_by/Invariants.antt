use Rattle.std.proofs.Common.{length}
use Rattle.sbx_fuel.proofs.sums.+taken_by.Given as goal

abbrev pub decreases-taken_by : goal.decreases-taken_by
decreases-taken_by l = length l.terms.now
