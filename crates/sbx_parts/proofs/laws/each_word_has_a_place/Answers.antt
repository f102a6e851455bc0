use Rattle.sbx_parts.proofs.Ordered.{have_places}
use Rattle.sbx_parts.proofs.laws.each_word_has_a_place.Goals as goal

pub returns : goal.returns
returns c = have_places
