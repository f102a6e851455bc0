use Rattle.sbx_range.proofs.Kept.{one_edge_is_left}
use Rattle.sbx_range.proofs.laws.one_edge_is_left.Goals as goal

pub returns : goal.returns
returns c = one_edge_is_left
