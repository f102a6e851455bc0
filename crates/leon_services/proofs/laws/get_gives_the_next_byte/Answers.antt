use Rattle.leon_services.proofs.Served.{get_law}
use Rattle.leon_services.proofs.laws.get_gives_the_next_byte.Goals as goal

pub returns : goal.returns
returns c = get_law
