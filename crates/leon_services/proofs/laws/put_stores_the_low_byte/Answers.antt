use Rattle.leon_services.proofs.Served.{put_law}
use Rattle.leon_services.proofs.laws.put_stores_the_low_byte.Goals as goal

pub returns : goal.returns
returns c = put_law
