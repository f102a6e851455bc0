use Rattle.std.proofs.Common.{ap, refl, ◌∙◌, arith}
use Rattle.native_lang.specs.declared.program.BlockEnd.TheVariants.{Goto}
use Rattle.native_flow.specs.Labelling.{label_at, labels_of}
use Rattle.native_flow.proofs.Endings.{calls_so}
use Rattle.native_flow.proofs.Making.{both}
use Rattle.native_flow.proofs.transfers.call.Goals as goal

pub returns : goal.returns
returns c =
    let p = c.args.place.now in
    let starts = c.args.labels.now.starts.items in
    let mid = c.turns.new.self in
    both c.with_slot.result (λ block h ends parts f start some asks has stands. calls_so parts (labels_of starts) f start some p.address c.args.displacement p.slot c.args.making mid
    (record mid { statements = c.assign.new.self }) block (record { at = c.in_ok-turns.ensures.list; turns = c.in_ok-turns.ensures.turns (omega arith) }) asks has c.in_ok-assign.ensures.list refl stands h
    (ends ∙ ap Goto (c.at-entry.ensures ∙ ap (label_at starts) c.target.ensures))) c.with_slot.ensures.made c.with_slot.ensures.end
