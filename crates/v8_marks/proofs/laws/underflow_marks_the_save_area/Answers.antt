use Rattle.v8_marks.proofs.Underflow.{underflow_marks}
use Rattle.v8_marks.proofs.laws.underflow_marks_the_save_area.Goals as goal

pub returns : goal.returns
returns c = underflow_marks
