use Rattle.std.proofs.Common.{drop}
use Rattle.std.specs.List.{AllByRecursion}
use Rattle.sbx_parts.proofs.lists.each_fits.Given as goal

abbrev pub invariant-loop-item : goal.invariant-loop-item
invariant-loop-item g l = AllByRecursion g.T.Typed.is_typed (drop l.item-index l.items) → AllByRecursion g.T.Typed.is_typed l.items
