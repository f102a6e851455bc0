use Rattle.std.proofs.Common.{refl}
use Rattle.native_flow.proofs.transfers.decided.Goals as goal

pub returns : goal.returns
returns c = record { block = c.in_ok-block.ensures.made; ends = c.in_ok-block.ensures.end; edge = refl }
