use Rattle.v8_forms.proofs.Tables.{tells_apart}
use Rattle.v8_forms.proofs.laws.forms_are_told_apart.Goals as goal

pub returns : goal.returns
returns c = tells_apart
