use Rattle.v8_syntax.proofs.Index.{row_form, row_in}
use Rattle.v8_syntax.proofs.letters.form.Goals as goal

pub bounds-forms-from : goal.bounds-forms-from
bounds-forms-from c = row_in c.forms.result.now c.args.number c.from.result c.forms.ensures c.from.ensures c.requires

pub returns : goal.returns
returns c = λ d. row_form c.forms.result.now c.args.number c.from.result _ d c.forms.ensures c.from.ensures c.requires
