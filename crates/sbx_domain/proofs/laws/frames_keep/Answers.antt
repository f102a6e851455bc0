use Rattle.sbx_domain.proofs.Examples.{frames_keep}
use Rattle.sbx_domain.proofs.laws.frames_keep.Goals as goal

pub returns : goal.returns
returns c = frames_keep
