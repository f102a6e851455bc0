use Rattle.sbx_image.proofs.AgainLaws.{reading_again}
use Rattle.sbx_image.proofs.laws.what_is_spelled_is_read.Goals as goal

pub returns : goal.returns
returns c = λ p typed e. reading_again p typed e
