use Rattle.v8_forms.specs.Forms.{form_of}
use Rattle.v8_forms.proofs.Tables.{first_are_native, natives_fit}
use Rattle.v8_forms.proofs.rows.natives.Goals as goal

pub slice_bounds-result-end : goal.slice_bounds-result-end
slice_bounds-result-end c = natives_fit form_of c.forms.result.now c.forms.ensures

pub returns : goal.returns
returns c = first_are_native form_of c.forms.result.now c.forms.ensures
