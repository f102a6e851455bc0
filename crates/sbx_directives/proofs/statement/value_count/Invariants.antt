use Rattle.std.proofs.Common.{◌≡◌, ◌≤◌, ◌+◌, length}
use Rattle.std.specs.List.{list_all}
use Rattle.sbx_directives.specs.Directives.{behind, is_expression}
use Rattle.sbx_directives.proofs.statement.value_count.Given as goal

-- those so far are expressions, and there is a token for each
abbrev pub invariant-loop-operand : goal.invariant-loop-operand
invariant-loop-operand l =
    (list_all is_expression (behind l.line l.rest) ≡ list_all is_expression (behind l.line l.tokens))
    × (l.count + length (behind l.line l.rest) ≡ length (behind l.line l.tokens))
    × (l.count + length l.rest ≤ length l.tokens)

abbrev pub decreases-loop-operand : goal.decreases-loop-operand
decreases-loop-operand l = length l.rest
