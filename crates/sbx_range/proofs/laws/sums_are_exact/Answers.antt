use Rattle.sbx_range.proofs.Sound.{exact_sums}
use Rattle.sbx_range.proofs.laws.sums_are_exact.Goals as goal

pub returns : goal.returns
returns c = exact_sums
