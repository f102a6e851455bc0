use Rattle.std.proofs.Common.{length}
use Rattle.sbx_faults.proofs.cells.+has_outs.Given as goal

abbrev pub decreases-has_outs : goal.decreases-has_outs
decreases-has_outs l = length l.ranges.now
