use Rattle.std.proofs.Common.{List, Option, None, slice_index_or, sym, ap, arith, ◌∙◌}
use Rattle.sbx_domain.proofs.Padding.{padded_past}
use Rattle.sbx_domain.proofs.rows.Rows.end_below.Goals as goal

pub returns-clause-none : goal.returns-clause-none
returns-clause-none g c =
    let A = g.row.T.Denot in
    λ k past below. (ap (λ (xs : List (Option A)). slice_index_or xs k None) (sym c.self.view_is)
    ∙ padded_past A c.self.inside.items.items k (omega (arith, past, below)))
