-- The code that each fault is shown by.
use Rattle.std.specs.Prelude.{ℕ, List, codes}
use Rattle.v8_syntax.specs.declared.fault.SyntaxFault.{SyntaxFault}

abbrev pub code_of : SyntaxFault → List ℕ
code_of SyntaxFault.UnknownMnemonic = codes "S1"
code_of SyntaxFault.Shape = codes "S2"
code_of SyntaxFault.Immediate = codes "S3"
code_of SyntaxFault.UnknownSymbol = codes "S4"
code_of SyntaxFault.Target = codes "S5"
