use Rattle.std.proofs.Common.{◌≡◌, List, [], ◌∷◌, ◌++◌, None, Some, ap, sym, ◌∙◌}
use Rattle.std.specs.Map.{update}
use Rattle.std.specs.Str.{bytes_eq}
use Rattle.sbx_asm.specs.declared.fault.AsmFault.{AsmFault}
use Rattle.sbx_asm.specs.declared.fault.Cause.TheVariants.{DuplicateLabel}
use Rattle.sbx_asm.specs.Rules.{at, Values}
use Rattle.sbx_asm.specs.Addresses.{Label, labelled, worth_in}
use Rattle.sbx_asm.proofs.Surveys.{worth_stays, told_twice, worth_taken, told_once}
use Rattle.sbx_asm.proofs.survey.Survey.add.Goals as goal

pub returns-in_ok-push-in-Some : goal.returns-in_ok-push-in-Some
returns-in_ok-push-in-Some c = λ labels so_far.
    let l : Label = labelled c.args.number c.args.address c.args.name.now in
    let known : worth_in labels c.args.name.now ≡ Some c.in-Some.field-0 = sym (ap (λ (vs : Values). vs c.args.name.now) so_far.0) ∙ sym c.value.ensures ∙ c.in-Some.is in (
      so_far.0 ∙ worth_stays labels l c.in-Some.field-0 known,
      c.in_ok-push-in-Some.ensures.items ∙ ap (λ (faults : List AsmFault). faults ++ at c.args.number DuplicateLabel ∷ []) so_far.1 ∙ told_twice labels l c.in-Some.field-0 known,
    )

pub returns-in_ok-put-in-None : goal.returns-in_ok-put-in-None
returns-in_ok-put-in-None c = λ labels so_far.
    let l : Label = labelled c.args.number c.args.address c.args.name.now in
    let unknown : worth_in labels c.args.name.now ≡ None = sym (ap (λ (vs : Values). vs c.args.name.now) so_far.0) ∙ sym c.value.ensures ∙ c.in-None.is in (
      c.in_ok-put-in-None.ensures ∙ ap (λ (vs : Values). update bytes_eq vs c.args.name.now (Some c.args.address)) so_far.0 ∙ worth_taken labels l unknown,
      so_far.1 ∙ told_once labels l unknown,
    )
