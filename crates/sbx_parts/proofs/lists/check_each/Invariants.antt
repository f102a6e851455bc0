use Rattle.std.proofs.Common.{◌≡◌, drop}
use Rattle.sbx_parts.specs.Rules.{each}
use Rattle.sbx_parts.proofs.lists.check_each.Given as goal

abbrev pub invariant-loop-item : goal.invariant-loop-item
invariant-loop-item g l = each (g.T.HasRules.keeps l.setting) l.state (drop l.item-index l.items) ≡ each (g.T.HasRules.keeps l.setting) l.fn.first l.items
