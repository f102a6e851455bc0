use Rattle.sbx_parts.proofs.Ordered.{in_order}
use Rattle.sbx_parts.proofs.laws.functions_and_blocks_are_in_order.Goals as goal

pub returns : goal.returns
returns c = in_order
