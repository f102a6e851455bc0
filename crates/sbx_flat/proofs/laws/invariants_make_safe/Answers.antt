use Rattle.sbx_flat.proofs.Paired.{invariant_along, invariant_is_safe}
use Rattle.sbx_flat.proofs.laws.invariants_make_safe.Goals as goal

pub returns-clause-safe : goal.returns-clause-safe
returns-clause-safe g c parts inv = invariant_is_safe parts (g.I.Relation.related parts) inv

pub returns-clause-along : goal.returns-clause-along
returns-clause-along g c parts input path s t inv bytes run other = invariant_along parts (g.I.Relation.related parts) inv input path s t bytes run other
