use Rattle.sbx_form.proofs.Ordered.{least_is_least}
use Rattle.sbx_form.proofs.laws.least_is_least.Goals as goal

pub returns : goal.returns
returns c = least_is_least
