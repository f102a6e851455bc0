use Rattle.std.proofs.Common.{sym, ◌∙◌}
use Rattle.native_flow.proofs.Endings.{no_slot, slot_added}
use Rattle.native_flow.proofs.Making.{on_ok}
use Rattle.native_flow.proofs.transfers.make_slot.Goals as goal

pub returns-then-not-is_straight : goal.returns-then-not-is_straight
returns-then-not-is_straight c = no_slot c.args.slot.now c.args.statements.now.list.items (sym c.is_straight.ensures ∙ c.if-not-is_straight.true)

pub returns : goal.returns
returns c = on_ok c.word.result (λ _ h. slot_added c.args.slot.now c.args.statements.now.list.items c.word.new.statements.list.items (h (sym c.is_straight.ensures ∙ c.if-not-is_straight.false))) c.word.ensures
