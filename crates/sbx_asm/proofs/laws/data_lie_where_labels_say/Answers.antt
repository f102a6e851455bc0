use Rattle.sbx_asm.proofs.Lying.{data_lie}
use Rattle.sbx_asm.proofs.laws.data_lie_where_labels_say.Goals as goal

pub returns : goal.returns
returns c = data_lie
