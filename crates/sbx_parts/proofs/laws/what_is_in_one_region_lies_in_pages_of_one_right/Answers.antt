use Rattle.sbx_parts.proofs.Within.{reached}
use Rattle.sbx_parts.proofs.laws.what_is_in_one_region_lies_in_pages_of_one_right.Goals as goal

pub returns : goal.returns
returns c = reached
