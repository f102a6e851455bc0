use Rattle.sbx_reader.proofs.Lasting.{front_lasts}
use Rattle.sbx_reader.proofs.laws.a_front_keeps_its_fault.Goals as goal

pub returns : goal.returns
returns c = λ bytes more fault e. front_lasts bytes more fault e
