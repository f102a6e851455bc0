use Rattle.v8_mmu.proofs.OneEnd.{one_page, no_end_on_path}
use Rattle.v8_mmu.proofs.laws.addresses_lead_one_way.Goals as goal

pub returns-clause-page : goal.returns-clause-page
returns-clause-page c = λ ram root va f g s t. one_page ram root va f g s t

pub returns-clause-end : goal.returns-clause-end
returns-clause-end c = λ ram root va ft level f s n. no_end_on_path ram root va ft level f s n
