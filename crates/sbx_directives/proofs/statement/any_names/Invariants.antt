use Rattle.std.proofs.Common.{◌≡◌, length}
use Rattle.std.specs.List.{list_any}
use Rattle.sbx_directives.specs.Directives.{behind, names}
use Rattle.sbx_directives.proofs.statement.any_names.Given as goal

abbrev pub invariant-loop-operand : goal.invariant-loop-operand
invariant-loop-operand l = list_any (names l.wanted l.line) (behind l.line l.rest) ≡ list_any (names l.wanted l.line) (behind l.line l.tokens)

abbrev pub decreases-loop-operand : goal.decreases-loop-operand
decreases-loop-operand l = length l.rest
