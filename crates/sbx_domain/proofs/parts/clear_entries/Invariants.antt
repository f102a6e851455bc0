use Rattle.std.proofs.Common.{◌≡◌, ◌-◌, ◌≤◌, length}
use Rattle.sbx_domain.proofs.Moves.{FilledTo, after_clear}
use Rattle.sbx_domain.proofs.parts.clear_entries.Given as goal

abbrev pub invariant-loop-location : goal.invariant-loop-location
invariant-loop-location g l = (length l.entries ≡ length l.initial.entries) × (l.from ≤ l.location)
    × FilledTo g.row.T.Denot l.location (after_clear g.row.T.Denot l.from l.to l.initial.entries) l.initial.entries l.entries

abbrev pub decreases-loop-location : goal.decreases-loop-location
decreases-loop-location g l = l.to - l.location
