-- The code that each fault is shown by.
use Rattle.std.specs.Prelude.{ℕ, List, codes}
use Rattle.sbx_parts.specs.declared.fault.ImageFault.{ImageFault}
use Rattle.sbx_parts.specs.declared.fault.ImageFault.TheVariants.{Short, Magic, Version, Service, Limit, Trailing}
use Rattle.sbx_parts.specs.declared.fault.ImageFault.TheVariants.{Order, Range, Memory}

abbrev pub code_of : ImageFault → List ℕ
code_of Short = codes "I1"
code_of Magic = codes "I2"
code_of Version = codes "I3"
code_of Service = codes "I4"
code_of Limit = codes "I5"
code_of Trailing = codes "I6"
code_of Order = codes "I7"
code_of Range = codes "I8"
code_of (Memory want) = codes "I9"
