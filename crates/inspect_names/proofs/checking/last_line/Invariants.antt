use Rattle.std.proofs.Common.{◌≡◌, None, drop}
use Rattle.inspect_names.specs.Findings.{last_line}
use Rattle.inspect_names.proofs.checking.last_line.Given as goal

-- the last line so far, and those of the words that are left
abbrev pub invariant-loop-row : goal.invariant-loop-row
invariant-loop-row l = last_line l.found (drop l.row-index l.rows) l.address ≡ last_line None l.rows l.address
