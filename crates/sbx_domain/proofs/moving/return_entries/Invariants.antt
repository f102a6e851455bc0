use Rattle.std.proofs.Common.{◌≡◌, length}
use Rattle.sbx_domain.specs.declared.entry.Entry.{Entry}
use Rattle.sbx_domain.specs.Transfer.{result_entry}
use Rattle.sbx_domain.proofs.Moves.{FilledTo}
use Rattle.sbx_domain.proofs.moving.return_entries.Given as goal

abbrev pub invariant-loop-location : goal.invariant-loop-location
invariant-loop-location l = (length l.entries ≡ length l.initial.entries) × FilledTo Entry l.location (result_entry l.results) l.initial.entries l.entries
