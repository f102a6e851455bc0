use Rattle.leon_services.proofs.Alike.{gets_alike}
use Rattle.leon_services.proofs.laws.gets_go_alike.Goals as goal

pub returns : goal.returns
returns c = gets_alike
