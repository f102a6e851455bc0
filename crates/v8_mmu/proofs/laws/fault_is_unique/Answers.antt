use Rattle.v8_mmu.proofs.OneEnd.{one_fault}
use Rattle.v8_mmu.proofs.laws.fault_is_unique.Goals as goal

pub returns : goal.returns
returns c = λ ram root va a d e s t. one_fault ram root va a d e s t
