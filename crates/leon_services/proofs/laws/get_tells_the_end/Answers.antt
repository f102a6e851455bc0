use Rattle.leon_services.proofs.Served.{get_end_law}
use Rattle.leon_services.proofs.laws.get_tells_the_end.Goals as goal

pub returns : goal.returns
returns c = get_end_law
