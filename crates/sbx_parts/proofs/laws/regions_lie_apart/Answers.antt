use Rattle.sbx_parts.proofs.Limits.{data_within}
use Rattle.sbx_parts.proofs.Within.{lie_apart}
use Rattle.sbx_parts.proofs.laws.regions_lie_apart.Goals as goal

pub returns : goal.returns
returns c = λ p e. lie_apart p.regions (data_within p e).pages
