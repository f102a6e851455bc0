use Rattle.v8_routines.proofs.Served.{put_law}
use Rattle.v8_routines.proofs.services.put_puts_the_low_byte_out.Goals as goal

pub returns : goal.returns
returns c = put_law
