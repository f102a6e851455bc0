use Rattle.sbx_sound.proofs.Formed.{what_is_read_is_formed}
use Rattle.sbx_sound.proofs.laws.what_is_read_is_formed.Goals as goal

pub returns : goal.returns
returns c = what_is_read_is_formed
