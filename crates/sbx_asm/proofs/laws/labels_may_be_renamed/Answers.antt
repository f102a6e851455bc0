use Rattle.sbx_asm.proofs.Meanings.{may_be_renamed}
use Rattle.sbx_asm.proofs.laws.labels_may_be_renamed.Goals as goal

pub returns : goal.returns
returns c = may_be_renamed
