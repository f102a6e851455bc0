use Rattle.v8_layout.proofs.Stay.{tables_kept}
use Rattle.v8_layout.proofs.Map.{tables_map}
use Rattle.v8_layout.proofs.laws.tables_stay.Goals as goal

pub returns : goal.returns
returns c = λ g old new few before same. let kept = tables_kept g old new before same in (kept, tables_map g new few kept)
