use Rattle.leon_services.proofs.Served.{exit_law}
use Rattle.leon_services.proofs.laws.exit_tells_its_status.Goals as goal

pub returns : goal.returns
returns c = exit_law
