use Rattle.sbx_shows.proofs.Whole.{user_turns_keep}
use Rattle.sbx_shows.proofs.laws.user_turns_keep_what_is_shown.Goals as goal

pub returns : goal.returns
returns c = user_turns_keep
