use Rattle.sbx_form.proofs.Ordered.{sums_have_the_sum}
use Rattle.sbx_form.proofs.laws.sums_have_the_sum.Goals as goal

pub returns : goal.returns
returns c = sums_have_the_sum
