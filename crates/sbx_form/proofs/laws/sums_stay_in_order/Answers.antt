use Rattle.sbx_form.proofs.Ordered.{sums_stay_in_order}
use Rattle.sbx_form.proofs.laws.sums_stay_in_order.Goals as goal

pub returns : goal.returns
returns c = sums_stay_in_order
