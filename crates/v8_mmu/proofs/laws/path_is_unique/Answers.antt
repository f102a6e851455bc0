use Rattle.v8_mmu.proofs.OneEnd.{one_path}
use Rattle.v8_mmu.proofs.laws.path_is_unique.Goals as goal

pub returns : goal.returns
returns c = λ ram root va a f g s t. one_path ram root va a f g s t
