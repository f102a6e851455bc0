use Rattle.native_flow.proofs.Endings.{edge_made}
use Rattle.native_flow.proofs.Making.{on_ok}
use Rattle.native_flow.proofs.transfers.edge_block.Goals as goal

pub returns-clause-made : goal.returns-clause-made
returns-clause-made c = on_ok c.ended.result (λ block at. edge_made c.args.slot.now c.new-edge.result.statements.list.items c.make_slot.new.statements.list.items block.statements.items
    c.new-edge.result.turns c.new-edge.ensures.list c.new-edge.ensures.turns c.in_ok-make_slot.ensures at) c.ended.ensures.list
