-- What is wrong with a file of a table.
use Rattle.std.specs.Prelude.{ℕ, ◌≤◌, List, length}
use Rattle.inspect_cycles.specs.declared.reading.TableFault.{TableFault}
use Rattle.inspect_cycles.specs.declared.reading.TableFault.TheVariants.{Line, Lacks}

-- a line of a fault is one of the file, which has no more lines than bytes
abbrev pub LiesIn : List ℕ → TableFault → Type 0
LiesIn file (Line number cause) = (1 ≤ number) × (number ≤ length file)
LiesIn file (Lacks name) = Unit {0}
