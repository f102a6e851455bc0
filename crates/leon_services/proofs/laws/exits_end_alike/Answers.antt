use Rattle.leon_services.proofs.Alike.{exits_alike}
use Rattle.leon_services.proofs.laws.exits_end_alike.Goals as goal

pub returns : goal.returns
returns c = exits_alike
