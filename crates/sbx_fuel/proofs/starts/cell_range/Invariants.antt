use Rattle.std.proofs.Common.{◌≡◌, drop}
use Rattle.sbx_rules.specs.Known.{cell_entry}
use Rattle.sbx_fuel.proofs.starts.cell_range.Given as goal

abbrev pub invariant-loop-cell : goal.invariant-loop-cell
invariant-loop-cell l = cell_entry (drop l.cell-index l.cells) l.location ≡ cell_entry l.cells l.location
