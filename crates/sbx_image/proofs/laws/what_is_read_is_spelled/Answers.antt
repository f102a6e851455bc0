use Rattle.sbx_image.proofs.TakesLaws.{reading_takes}
use Rattle.sbx_image.proofs.laws.what_is_read_is_spelled.Goals as goal

pub returns : goal.returns
returns c = λ bytes p fits e. reading_takes bytes p fits e
