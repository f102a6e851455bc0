use Rattle.std.proofs.Common.{arith}
use Rattle.native_flow.proofs.Making.{both, exits_so}
use Rattle.native_flow.proofs.blocks.BlockMaking.exit.Goals as goal

pub returns : goal.returns
returns c = both c.ended.result (λ block at is parts labels f start some a t asks exits stands. exits_so parts labels f start some a t c.args.self c.turns.new.self block
    c.in_ok-turns.ensures.list (c.in_ok-turns.ensures.turns (omega arith)) at is asks exits stands) c.ended.ensures.list c.ended.ensures.end
