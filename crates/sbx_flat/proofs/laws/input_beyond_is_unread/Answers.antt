use Rattle.sbx_flat.proofs.Unread.{unread}
use Rattle.sbx_flat.proofs.laws.input_beyond_is_unread.Goals as goal

pub returns : goal.returns
returns c parts path s t front rest other is run within = unread parts path s t front rest other is run within
