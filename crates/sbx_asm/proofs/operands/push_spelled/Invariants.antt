use Rattle.std.proofs.Common.{◌≡◌, ◌++◌, take, map}
use Rattle.v8_formats.specs.Spelling.{spelling}
use Rattle.sbx_asm.proofs.operands.push_spelled.Given as goal

abbrev pub invariant-loop-instruction : goal.invariant-loop-instruction
invariant-loop-instruction l = l.words.items ≡ l.fn.words.items ++ map spelling (take l.instruction-index l.instructions)
