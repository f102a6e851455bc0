use Rattle.std.proofs.Common.{sym}
use Rattle.sbx_directives.specs.Directives.{behind}
use Rattle.sbx_directives.proofs.Counts.{stops, empty, ends}
use Rattle.sbx_directives.proofs.statement.value_count.Goals as goal

pub returns-then-not-is_expression : goal.returns-then-not-is_expression
returns-then-not-is_expression c =
    stops (behind c.args.line.now c.args.tokens.now) (behind c.args.line.now c.loop-operand.rest.now) (behind c.args.line.now c.in-Some.after.now) c.in-Some.operand
    c.in-Some.ensures.cases (sym c.if-not-is_expression.ensures) c.loop-operand.invariant.0

pub returns-then-count-eq0 : goal.returns-then-count-eq0
returns-then-count-eq0 c =
    empty (behind c.args.line.now c.args.tokens.now) (behind c.args.line.now c.loop-operand.rest.now) c.loop-operand.count
    c.in_default.ensures.cases c.if-count-eq0.true c.loop-operand.invariant.1

pub returns-else-count-eq0 : goal.returns-else-count-eq0
returns-else-count-eq0 c =
    ends (behind c.args.line.now c.args.tokens.now) (behind c.args.line.now c.loop-operand.rest.now) c.loop-operand.count
    c.in_default.ensures.cases c.if-count-eq0.false c.loop-operand.invariant.0 c.loop-operand.invariant.1
