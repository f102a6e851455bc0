use Rattle.std.proofs.Common.{◌≡◌, ◌-◌, length, slice_index_or, None}
use Rattle.sbx_domain.proofs.Moves.{FilledTo}
use Rattle.sbx_domain.proofs.parts.copy_entries.Given as goal

abbrev pub invariant-loop-location : goal.invariant-loop-location
invariant-loop-location g l = (length l.to ≡ length l.initial.to) × FilledTo g.row.T.Denot l.location (λ k. slice_index_or l.from k None) l.initial.to l.to

abbrev pub decreases-loop-location : goal.decreases-loop-location
decreases-loop-location g l = 1040 - l.location
