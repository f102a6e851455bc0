use Rattle.std.proofs.Common.{◌+◌, length, Ok, Err, refl, sym, ap, ◌∙◌, subst}
use Rattle.std.proofs.lemmas.List.Sorted.{searched}
use Rattle.native_flow.specs.Labelling.{Rises, label_at}
use Rattle.native_flow.proofs.Starting.{found_label, lost_label, up_to}
use Rattle.native_flow.proofs.labels.Labels.at.Goals as goal

pub returns-in-Ok : goal.returns-in-Ok
returns-in-Ok c =
    let rise = subst Rises (sym c.as_slice.ensures.value) c.args.self.now.rise in
    let found = searched c.as_slice.result.now c.args.address (Ok c.in-Ok.place) c.in-Ok.ensures.position (up_to c.as_slice.result.now rise) in
    found_label c.as_slice.result.now c.args.address c.in-Ok.place _ rise found refl ∙ ap (λ l. label_at l c.args.address) c.as_slice.ensures.value

pub returns-in-Err : goal.returns-in-Err
returns-in-Err c =
    let rise = subst Rises (sym c.as_slice.ensures.value) c.args.self.now.rise in
    let parted = searched c.as_slice.result.now c.args.address (Err c.in-Err.field-0) c.in-Err.ensures.position (up_to c.as_slice.result.now rise) in
    lost_label c.as_slice.result.now c.args.address c.in-Err.field-0 _ parted (c.nowhere.ensures ∙ ap (λ l. length l + 1) (sym c.as_slice.ensures.value))
    ∙ ap (λ l. label_at l c.args.address) c.as_slice.ensures.value
