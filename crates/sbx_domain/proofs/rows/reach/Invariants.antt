use Rattle.std.proofs.Common.{◌≡◌, ◌+◌, ◌-◌, ◌≤◌, length, vec_capacity}
use Rattle.sbx_domain.specs.Parts.{padded}
use Rattle.sbx_domain.proofs.rows.reach.Given as goal

abbrev pub invariant-loop-items : goal.invariant-loop-items
invariant-loop-items g l = (padded l.items.items ≡ padded l.initial.items.items) × (length l.items.items ≤ 1040) × (1040 ≤ vec_capacity l.items)

abbrev pub decreases-loop-items : goal.decreases-loop-items
decreases-loop-items g l = (l.location + 1) - length l.items.items
