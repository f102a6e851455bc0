use Rattle.v8_forms.proofs.Tables.{covers_table}
use Rattle.v8_forms.proofs.laws.forms_cover_the_table.Goals as goal

pub returns : goal.returns
returns c = covers_table
