use Rattle.sbx_parts.proofs.Within.{data_lies_at}
use Rattle.sbx_parts.proofs.laws.data_lie_in_their_pages.Goals as goal

pub returns : goal.returns
returns c = data_lies_at
