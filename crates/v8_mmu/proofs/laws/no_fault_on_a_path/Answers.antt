use Rattle.v8_mmu.proofs.OneEnd.{no_fault_on_path}
use Rattle.v8_mmu.proofs.laws.no_fault_on_a_path.Goals as goal

pub returns : goal.returns
returns c = λ ram root va a f e s t. no_fault_on_path ram root va a f e s t
