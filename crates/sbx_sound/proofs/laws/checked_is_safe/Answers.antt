use Rattle.sbx_sound.proofs.Whole.{checked_is_safe}
use Rattle.sbx_sound.proofs.laws.checked_is_safe.Goals as goal

pub returns : goal.returns
returns c = checked_is_safe
