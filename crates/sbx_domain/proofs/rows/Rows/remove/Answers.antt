use Rattle.std.proofs.Common.{List, Option, None, slice_set, sym, ap, arith, ◌∙◌}
use Rattle.sbx_domain.proofs.Padding.{padded_set, padded_unset}
use Rattle.sbx_domain.proofs.rows.Rows.remove.Goals as goal

pub returns-then-location-len : goal.returns-then-location-len
returns-then-location-len g c =
    let A = g.row.T.Denot in
    let k = c.args.location in
    padded_set A c.self.inside.items.items k None (omega (arith, c.if-location-len.true)) ∙ ap (λ (ys : List (Option A)). slice_set ys k None) c.self.view_is

pub returns-else-location-len : goal.returns-else-location-len
returns-else-location-len g c =
    let A = g.row.T.Denot in
    let k = c.args.location in
    sym c.self.view_is
    ∙ (padded_unset A c.self.inside.items.items k (omega (arith, c.if-location-len.false)) ∙ ap (λ (ys : List (Option A)). slice_set ys k None) c.self.view_is)
