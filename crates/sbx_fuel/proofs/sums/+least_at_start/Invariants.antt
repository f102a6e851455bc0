use Rattle.std.proofs.Common.{length}
use Rattle.sbx_fuel.proofs.sums.+least_at_start.Given as goal

abbrev pub decreases-least_at_start : goal.decreases-least_at_start
decreases-least_at_start l = length l.terms.now
