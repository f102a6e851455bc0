use Rattle.sbx_range.specs.Refining.{refine, narrowed}
use Rattle.std.proofs.Common.{rules}
use Rattle.sbx_range.proofs.refining.refine.Goals as goal

pub returns-in-Less : goal.returns-in-Less
unfolding refine narrowed
returns-in-Less c = search rules
