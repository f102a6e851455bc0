use Rattle.std.proofs.Common.{List, Option, slice_set, ap, ◌∙◌}
use Rattle.sbx_domain.proofs.Padding.{padded_set}
use Rattle.sbx_domain.proofs.rows.Rows.write.Goals as goal

pub returns : goal.returns
returns g c =
    let A = g.row.T.Denot in
    padded_set A c.reach.new.items.items c.args.location c.args.entry c.reach.ensures.reached
    ∙ ap (λ (xs : List (Option A)). slice_set xs c.args.location c.args.entry) (c.reach.ensures.same ∙ c.self.view_is)
