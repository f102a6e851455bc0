use Rattle.std.proofs.Common.{◌≡◌, length}
use Rattle.std.specs.List.{list_all}
use Rattle.sbx_directives.specs.Directives.{behind, is_service}
use Rattle.sbx_directives.proofs.statement.are_services.Given as goal

abbrev pub invariant-loop-operand : goal.invariant-loop-operand
invariant-loop-operand l = list_all (is_service l.line) (behind l.line l.rest) ≡ list_all (is_service l.line) (behind l.line l.tokens)

abbrev pub decreases-loop-operand : goal.decreases-loop-operand
decreases-loop-operand l = length l.rest
