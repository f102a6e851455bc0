use Rattle.std.proofs.Common.{◌+◌, sym, ap, ◌∙◌, subst, arith}
use Rattle.native_flow.specs.Labelling.{HasCallsBelow}
use Rattle.native_flow.proofs.Sites.{calls_all, calls_more, calls_same}
use Rattle.native_flow.proofs.labels.sites_of.Goals as goal
use Rattle.native_flow.proofs.labels.sites_of.Goals.{in-Call+in_ok-note_site, in_default}

pub loop-k-preserved : goal.loop-k-preserved
loop-k-preserved c =
    elim c.match-asked.branch [
      | in-Call+in_ok-note_site w ↦
          calls_more c.words-words.result.now c.loop-k.k w.in-Call.displacement w.word_address.result c.loop-k.sites.items c.match-asked.sites.items c.loop-k.invariant
          (sym c.asked.ensures ∙ w.in-Call.is) w.word_address.ensures (ap (λ x. x.items) w.sites-is ∙ w.in_ok-note_site.ensures)
      | in_default w ↦
          subst (λ l. HasCallsBelow c.words-words.result.now (c.loop-k.k + 1) l) (sym (ap (λ x. x.items) w.sites-is))
          (calls_same c.words-words.result.now c.loop-k.k c.loop-k.sites.items c.loop-k.invariant (λ d e. w.in_default.not-Call d (c.asked.ensures ∙ e)))
    ]

pub returns : goal.returns
returns c = calls_all c.args.image.now c.words-words.result.now c.loop-k.k c.loop-k.sites.items c.words-words.ensures (omega arith) c.loop-k.invariant
