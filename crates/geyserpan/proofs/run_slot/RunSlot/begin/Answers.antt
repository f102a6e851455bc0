use Rattle.std.proofs.Common.{[], refl, subst}
use Rattle.sbx_image.specs.Parts.{Parts}
use Rattle.sbx_session.specs.Going.{Goes}
use Rattle.geyserpan.specs.declared.run_slot.Going.{Going}
use Rattle.geyserpan.proofs.run_slot.RunSlot.begin.Goals as goal

pub returns-in-Ok-clause-begun : goal.returns-in-Ok-clause-begun
returns-in-Ok-clause-begun c = λ done.
    let going : Going = record { session = c.in-Ok.session; granted = c.args.terms.now.output } in
    ((going, refl, subst (λ (parts : Parts). Goes 8 parts [] [] c.in-Ok.session) c.held.ensures c.in-Ok.ensures.0), refl, c.in-Ok.ensures.1)
