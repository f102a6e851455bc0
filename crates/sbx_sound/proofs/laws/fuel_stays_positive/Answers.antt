use Rattle.sbx_sound.proofs.Begun.{fuel_stays_positive}
use Rattle.sbx_sound.proofs.laws.fuel_stays_positive.Goals as goal

pub returns : goal.returns
returns c = fuel_stays_positive
