use Rattle.v8_marks.proofs.Users.{users_mark}
use Rattle.v8_marks.proofs.laws.user_turns_mark_their_page_and_their_address.Goals as goal

pub returns : goal.returns
returns c = users_mark
