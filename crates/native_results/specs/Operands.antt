-- Operands that an instruction can have.
use Rattle.std.specs.Prelude.{◌^◌, ◌<◌}
use Rattle.v8_formats.specs.declared.instr.Operand.{Operand}
use Rattle.v8_formats.specs.declared.instr.Operand.TheVariants.{Immediate, Register}

abbrev pub IsOperand : Operand → Type 0
IsOperand (Register r) = r < 32
IsOperand (Immediate n) = n < 2 ^ 32
