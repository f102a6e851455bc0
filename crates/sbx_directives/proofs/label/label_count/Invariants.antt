use Rattle.std.proofs.Common.{◌≡◌, ◌+◌, ◌*◌, length}
use Rattle.v8_syntax.specs.Statements.{statement_tokens}
use Rattle.sbx_directives.specs.Directives.{labels_first}
use Rattle.sbx_directives.proofs.label.label_count.Given as goal

-- the labels so far, and those that follow
abbrev pub invariant-loop-after : goal.invariant-loop-after
invariant-loop-after l =
    (l.count + labels_first (statement_tokens l.line l.rest) ≡ labels_first (statement_tokens l.line l.tokens)) × (2 * l.count + length l.rest ≡ length l.tokens)

abbrev pub decreases-loop-after : goal.decreases-loop-after
decreases-loop-after l = length l.rest
