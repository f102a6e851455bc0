use Rattle.leon_services.proofs.Served.{full_law}
use Rattle.leon_services.proofs.laws.put_stops_without_room.Goals as goal

pub returns : goal.returns
returns c = full_law
