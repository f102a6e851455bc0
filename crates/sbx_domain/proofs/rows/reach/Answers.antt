use Rattle.std.proofs.Common.{List, Option, None, length, ap, arith, ◌∙◌}
use Rattle.std.proofs.lemmas.List.{length_push}
use Rattle.sbx_domain.specs.Parts.{padded}
use Rattle.sbx_domain.proofs.Padding.{padded_more}
use Rattle.sbx_domain.proofs.rows.reach.Goals as goal

pub loop-items-preserved : goal.loop-items-preserved
loop-items-preserved g c =
    let A = g.row.T.Denot in
    let xs = c.loop-items.items.items in
    let is = c.push_reserved.ensures.items in (
      ap (λ (ys : List (Option A)). padded ys) is ∙ (padded_more A xs (omega arith) ∙ c.loop-items.invariant.0),
      (let long = ap (λ (ys : List (Option A)). length ys) is ∙ length_push xs None in omega (arith, long)),
      omega (arith, c.push_reserved.ensures.capacity, c.loop-items.invariant.2),
    )
