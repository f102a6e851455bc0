use Rattle.std.proofs.Common.{◌≡◌, Some, subst, sym, ◌∙◌, rules}
use Rattle.geyserpan.specs.Images.{IsRunDenial, parts_of}
use Rattle.geyserpan.specs.declared.image_slot.Kept.{Kept}
use Rattle.geyserpan.proofs.Kepts.{one_kept}
use Rattle.geyserpan.proofs.run_exports.geyserpan_begin_with.Goals as goal

pub returns-in-Some-clause-denied : goal.returns-in-Some-clause-denied
returns-in-Some-clause-denied c = λ kept is.
    let held : c.args.image.now.value.kept ≡ Some c.in-Some.kept = search rules in
    subst (λ (k : Kept). IsRunDenial (parts_of k) c.args.terms.now c.begin_with.result)
    (one_kept c.in-Some.kept kept (sym held ∙ is)) c.begin_with.ensures.denied
