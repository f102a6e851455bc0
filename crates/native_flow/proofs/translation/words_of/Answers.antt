use Rattle.std.proofs.Common.{sym, ap, ◌∙◌, slice_index, arith, ◌-◌, ◌/◌, ◌+◌}
use Rattle.std.specs.Prelude.{slice_get}
use Rattle.sbx_image.specs.Rules.{code_start}
use Rattle.native_flow.proofs.Stretches.{next_low, start_low, stretch_to_end, stretch_to_next}
use Rattle.native_flow.proofs.translation.words_of.Goals as goal

pub word_place-first-requires : goal.word_place-first-requires
word_place-first-requires c =
    let low = start_low c.args.image.now c.keeps_its_format.ensures.kept c.args.labels.now.starts.items c.args.labels.now.owners.items c.requires.starts c.args.number c.requires.number in
    let same = ap (λ l. slice_index l c.args.number) c.as_slice-starts.ensures.value in
    omega (arith, low, same)

pub word_place-requires : goal.word_place-requires
word_place-requires c =
    next_low c.args.image.now c.keeps_its_format.ensures.kept c.args.labels.now.starts.items c.args.labels.now.owners.items c.requires.starts c.args.number c.requires.number c.in-Some.next
    (ap (λ l. slice_get l (c.args.number + 1)) (sym c.as_slice-starts.ensures.value) ∙ sym c.next_start.ensures ∙ c.in-Some.is)

pub returns-in-Some : goal.returns-in-Some
returns-in-Some c =
    stretch_to_next c.args.image.now c.keeps_its_format.ensures.kept c.args.labels.now.starts.items c.args.labels.now.owners.items c.requires.starts c.args.number c.requires.number
    c.word_place-first.result c.word_place.result c.in-Some.next (ap (λ l. slice_get l (c.args.number + 1)) (sym c.as_slice-starts.ensures.value) ∙ sym c.next_start.ensures ∙ c.in-Some.is)
    (c.word_place-first.ensures ∙ ap (λ l. (slice_index l c.args.number - code_start) / 4) c.as_slice-starts.ensures.value) c.word_place.ensures

pub returns-in-None : goal.returns-in-None
returns-in-None c =
    stretch_to_end c.args.image.now c.keeps_its_format.ensures.kept c.args.labels.now.starts.items c.args.labels.now.owners.items c.requires.starts c.args.number c.requires.number
    c.word_place-first.result c.word_count.result (ap (λ l. slice_get l (c.args.number + 1)) (sym c.as_slice-starts.ensures.value) ∙ sym c.next_start.ensures ∙ c.in-None.is)
    (c.word_place-first.ensures ∙ ap (λ l. (slice_index l c.args.number - code_start) / 4) c.as_slice-starts.ensures.value) c.word_count.ensures.count
