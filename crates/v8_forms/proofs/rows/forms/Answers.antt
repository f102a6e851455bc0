use Rattle.std.proofs.Common.{refl}
use Rattle.v8_forms.specs.Forms.{natives, synthetics}
use Rattle.v8_forms.proofs.rows.forms.Goals as goal

pub returns : goal.returns
unfolding natives synthetics
returns c = refl
