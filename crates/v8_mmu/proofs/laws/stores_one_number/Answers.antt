use Rattle.v8_mmu.proofs.RamNumbers.{stores}
use Rattle.v8_mmu.proofs.laws.stores_one_number.Goals as goal

pub returns : goal.returns
returns c = λ ram at old v width there small. stores ram at old v width there small
