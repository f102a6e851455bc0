use Rattle.sbx_rules.proofs.Asking.{asking_in_order_tells_the_same}
use Rattle.sbx_rules.proofs.laws.asking_in_order_tells_the_same.Goals as goal

pub returns : goal.returns
returns c = asking_in_order_tells_the_same
