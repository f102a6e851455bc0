use Rattle.std.proofs.Common.{ap, refl, ◌∙◌}
use Rattle.native_lang.specs.declared.program.BlockEnd.TheVariants.{Goto}
use Rattle.native_flow.proofs.Endings.{returns_so}
use Rattle.native_flow.proofs.Making.{both}
use Rattle.native_flow.proofs.transfers.back.Goals as goal

pub returns : goal.returns
returns c =
    let p = c.args.place.now in
    let mid = c.turns.new.self in
    both c.with_slot.result (λ block h ends parts labels f start some asks lies has goes stands. returns_so parts labels f start some p.address c.turns_with.result c.args.jump.now p.slot c.args.making mid
    (record mid { statements = c.set.new.self }) block c.number.result (record { at = c.in_ok-turns.ensures.list; turns = c.in_ok-turns.ensures.turns c.turns_with.ensures.few }) c.turns_with.ensures.value c.number.ensures.value asks lies has
    c.in_ok-set.ensures refl stands h (ends ∙ ap Goto goes)) c.with_slot.ensures.made c.with_slot.ensures.end
