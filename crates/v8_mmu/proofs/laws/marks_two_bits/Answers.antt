use Rattle.v8_mmu.proofs.RamMore.{marks}
use Rattle.v8_mmu.proofs.laws.marks_two_bits.Goals as goal

pub returns : goal.returns
returns c = λ ram at w store e small. marks ram at w store e small
