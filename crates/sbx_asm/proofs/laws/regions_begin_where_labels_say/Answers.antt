use Rattle.sbx_asm.proofs.Beginning.{regions_begin}
use Rattle.sbx_asm.proofs.laws.regions_begin_where_labels_say.Goals as goal

pub returns : goal.returns
returns c = regions_begin
