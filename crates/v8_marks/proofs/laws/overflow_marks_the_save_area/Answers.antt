use Rattle.v8_marks.proofs.Overflow.{overflow_marks}
use Rattle.v8_marks.proofs.laws.overflow_marks_the_save_area.Goals as goal

pub returns : goal.returns
returns c = overflow_marks
