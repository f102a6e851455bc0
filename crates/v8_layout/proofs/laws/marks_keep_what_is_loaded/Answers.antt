use Rattle.v8_layout.proofs.Marks.{marks_keep}
use Rattle.v8_layout.proofs.laws.marks_keep_what_is_loaded.Goals as goal

pub returns : goal.returns
returns c = marks_keep
