use Rattle.sbx_directives.proofs.Groups.{next_group}
use Rattle.sbx_directives.proofs.operand.next_operand.Goals as goal

pub returns-clause-cases : goal.returns-clause-cases
returns-clause-cases c =
    next_group c.args.line.now c.args.tokens.now c.in-Some.rest.now c.split_at.result.0.now c.split_at.result.1.now c.in-Some.field-0-0.now c.group_len.result c.operand_of.result
    c.in-Some.ensures.cases.0 c.group_len.ensures.value c.split_at.ensures.front c.split_at.ensures.back c.operand_of.ensures
