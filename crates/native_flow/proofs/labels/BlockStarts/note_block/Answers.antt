use Rattle.std.proofs.Common.{[], ◌∷◌, ◌++◌, sym, ap, ◌∙◌}
use Rattle.native_flow.specs.Labelling.{begins_at}
use Rattle.native_flow.proofs.Starting.{none_starts, one_starts, starts_as}
use Rattle.native_flow.proofs.labels.BlockStarts.note_block.Goals as goal
use Rattle.native_flow.proofs.labels.BlockStarts.note_block.Goals.{then-begins_at+in_ok-note, else-begins_at}

pub loop-k-preserved : goal.loop-k-preserved
loop-k-preserved c =
    let parts = c.args.image.now in
    let first = c.row-first.result.0 in
    let k = c.loop-k.k in
    let test = ap (λ ws. begins_at ws first k) (sym c.words-words.ensures) ∙ sym c.begins_at.ensures in
    elim c.if-begins_at.branch [
      | then-begins_at+in_ok-note w ↦
          starts_as parts _ _ _ _ _ (ap (λ x. x.starts.items) w.self-is ∙ w.in_ok-note.ensures.starts ∙ ap (λ a. c.loop-k.self.starts.items ++ a ∷ []) w.word_address.ensures)
          (ap (λ x. x.owners.items) w.self-is ∙ w.in_ok-note.ensures.owners)
          (one_starts parts c.keeps_its_format.ensures.kept c.args.number c.args.block first c.row-first.result.1 k c.requires.is c.row-first.ensures.row c.loop-k.auto.k c.loop-k-test.true
          c.loop-k.self.starts.items c.loop-k.self.owners.items c.loop-k.invariant (test ∙ w.if-begins_at.true))
      | else-begins_at w ↦
          starts_as parts _ _ _ _ _ (ap (λ x. x.starts.items) w.self-is) (ap (λ x. x.owners.items) w.self-is)
          (none_starts parts c.keeps_its_format.ensures.kept c.args.number c.args.block first c.row-first.result.1 k c.requires.is c.row-first.ensures.row c.loop-k.auto.k c.loop-k-test.true
          c.loop-k.self.starts.items c.loop-k.self.owners.items c.loop-k.invariant (test ∙ w.if-begins_at.false))
    ]
