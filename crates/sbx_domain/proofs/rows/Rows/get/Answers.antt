use Rattle.std.proofs.Common.{List, Option, None, slice_index_or, sym, ap, arith, ◌∙◌}
use Rattle.std.proofs.lemmas.List.{get_or_read}
use Rattle.sbx_domain.proofs.Padding.{padded_at, padded_past}
use Rattle.sbx_domain.proofs.rows.Rows.get.Goals as goal

pub returns-then-location-len : goal.returns-then-location-len
returns-then-location-len g c =
    let A = g.row.T.Denot in
    let xs = c.self.inside.items.items in
    let k = c.args.location in
    get_or_read xs k c.index.result.now (omega (arith, c.if-location-len.true)) c.index.ensures None
    ∙ (sym (padded_at A xs k) ∙ ap (λ (ys : List (Option A)). slice_index_or ys k None) c.self.view_is)

pub returns-else-location-len : goal.returns-else-location-len
returns-else-location-len g c =
    let A = g.row.T.Denot in
    let xs = c.self.inside.items.items in
    let k = c.args.location in
    sym (padded_past A xs k (omega (arith, c.if-location-len.false))) ∙ ap (λ (ys : List (Option A)). slice_index_or ys k None) c.self.view_is
