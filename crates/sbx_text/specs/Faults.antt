-- The code that each fault is shown by.
use Rattle.std.specs.Prelude.{ℕ, List, codes}
use Rattle.sbx_text.specs.declared.fault.TextFault.{TextFault}
use Rattle.sbx_text.specs.declared.fault.TextFault.TheVariants.{NotAscii, BadCharacter, NumberTooLarge, LineTooLong}
use Rattle.sbx_text.specs.declared.fault.TextFault.TheVariants.{Memory}

abbrev pub code_of : TextFault → List ℕ
code_of NotAscii = codes "X1"
code_of BadCharacter = codes "X2"
code_of NumberTooLarge = codes "X3"
code_of LineTooLong = codes "X4"
code_of (Memory want) = codes "X5"
