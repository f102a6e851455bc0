use Rattle.leon_services.proofs.Alike.{puts_alike}
use Rattle.leon_services.proofs.laws.puts_go_alike.Goals as goal

pub returns : goal.returns
returns c = puts_alike
