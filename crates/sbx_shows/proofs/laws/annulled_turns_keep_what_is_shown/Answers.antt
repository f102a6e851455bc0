use Rattle.sbx_shows.proofs.Whole.{annulled_turns_keep}
use Rattle.sbx_shows.proofs.laws.annulled_turns_keep_what_is_shown.Goals as goal

pub returns : goal.returns
returns c = annulled_turns_keep
