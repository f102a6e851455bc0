use Rattle.std.proofs.Common.{◌≡◌, length}
use Rattle.sbx_domain.proofs.Moves.{FilledTo, with_ins}
use Rattle.sbx_domain.proofs.moving.save_entries.Given as goal

abbrev pub invariant-loop-location : goal.invariant-loop-location
invariant-loop-location g l = (length l.entries ≡ length l.initial.entries) × FilledTo g.row.T.Denot l.location (with_ins g.row.T.Denot l.initial.entries) l.initial.entries l.entries
