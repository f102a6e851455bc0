use Rattle.sbx_range.specs.Rows.{range_add}
use Rattle.std.proofs.Common.{rules}
use Rattle.sbx_range.proofs.sums.range_add.Goals as goal

pub returns : goal.returns
unfolding range_add
returns c = search rules
