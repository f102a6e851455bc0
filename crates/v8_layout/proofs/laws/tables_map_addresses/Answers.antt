use Rattle.v8_layout.proofs.Map.{tables_map}
use Rattle.v8_layout.proofs.laws.tables_map_addresses.Goals as goal

pub returns : goal.returns
returns c = tables_map
