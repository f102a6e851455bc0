use Rattle.v8_marks.proofs.Services.{services_mark}
use Rattle.v8_marks.proofs.laws.services_mark_the_page_of_the_call.Goals as goal

pub returns : goal.returns
returns c = services_mark
