use Rattle.std.proofs.Common.{List, Option, length, ap, arith}
use Rattle.sbx_domain.proofs.Padding.{padded_past, padded_size}
use Rattle.sbx_domain.proofs.rows.Rows.new.Goals as goal

pub returns-clause-size : goal.returns-clause-size
returns-clause-size g c =
    let A = g.row.T.Denot in
    let e = ap (λ (xs : List (Option A)). length xs) c.in_ok-items.ensures.items in
    padded_size A c.in_ok-items.items.items (omega (arith, e))

pub returns-clause-none : goal.returns-clause-none
returns-clause-none g c =
    let A = g.row.T.Denot in
    let e = ap (λ (xs : List (Option A)). length xs) c.in_ok-items.ensures.items in
    λ k. padded_past A c.in_ok-items.items.items k (omega (arith, e))
