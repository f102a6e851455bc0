use Rattle.std.proofs.Common.{refl}
use Rattle.native_flow.proofs.Making.{falls_on}
use Rattle.native_flow.proofs.blocks.BlockMaking.ended.Goals as goal

pub returns-clause-falls : goal.returns-clause-falls
returns-clause-falls c = λ parts labels f start a there goes stands. falls_on parts labels f start a c.args.self c.args.end
    (record { statements = c.count.new.self.statements.list; end = c.args.end }) c.in_ok-count.ensures.list refl there goes stands
