-- Why the bytes of a reader are not there.
use Rattle.std.specs.Prelude.{ℕ, ◌<◌, List, length, Option, IfSome}
use Rattle.cmd_filing.specs.declared.reading.ReadFault.{ReadFault}
use Rattle.cmd_filing.specs.declared.reading.ReadFault.TheVariants.{Reader, TooLong, Memory}

-- more bytes than the bound are told only where that many were left
abbrev pub Explains : ReadFault → ℕ → Option (List ℕ) → Type 0
Explains TooLong most left = IfSome left (λ all. most < length all)
Explains Reader most left = Unit {0}
Explains (Memory want) most left = Unit {0}
