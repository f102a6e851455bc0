use Rattle.std.proofs.Common.{[], refl, subst}
use Rattle.sbx_image.specs.Parts.{Parts}
use Rattle.sbx_session.specs.Going.{Goes}
use Rattle.geyserpan.specs.declared.run_slot.Going.{Going}
use Rattle.geyserpan.proofs.run_slot.RunSlot.restart.Goals as goal

pub returns-in-Some-clause-begun : goal.returns-in-Some-clause-begun
returns-in-Some-clause-begun c = λ done.
    let going : Going = record { session = c.restart.new.self; granted = c.args.terms.now.output } in
    ((going, refl, subst (λ (parts : Parts). Goes 8 parts [] [] c.restart.new.self) c.held.ensures c.restart.ensures.0), refl, c.restart.ensures.1)
