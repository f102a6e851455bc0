use Rattle.std.proofs.Common.{refl}
use Rattle.native_flow.proofs.Endings.{annulled_then, slot_then}
use Rattle.native_flow.proofs.Making.{on_ok}
use Rattle.native_flow.proofs.transfers.with_slot.Goals as goal

pub returns-then-annul-clause-made : goal.returns-then-annul-clause-made
returns-then-annul-clause-made c = on_ok c.ended.result (λ block at. annulled_then c.args.slot.now c.args.annul c.args.making block.statements.items c.if-annul.true at) c.ended.ensures.list

pub returns-clause-made : goal.returns-clause-made
returns-clause-made c = on_ok c.ended-2.result (λ block at. slot_then c.args.slot.now c.args.annul c.args.making (record c.args.making { statements = c.make_slot.new.statements })
    block.statements.items c.if-annul.false c.in_ok-make_slot.ensures refl at) c.ended-2.ensures.list
