use Rattle.std.proofs.Common.{refl, subst}
use Rattle.sbx_image.specs.Parts.{Parts}
use Rattle.engine_runs.specs.Steps.{IsBegun}
use Rattle.geyserpan.specs.declared.engine_slot.EngineRun.{EngineRun}
use Rattle.geyserpan.proofs.engine_slot.EngineSlot.begin.Goals as goal

pub returns-in-Ok-clause-begun : goal.returns-in-Ok-clause-begun
returns-in-Ok-clause-begun c = λ done.
    let run : EngineRun = record { paced = c.in-Ok.paced; granted = c.args.terms.now.output } in
    (run, refl, subst (λ (parts : Parts). IsBegun parts c.args.terms.now.windows c.in-Ok.paced) c.opened.ensures c.in-Ok.ensures, refl)
