use Rattle.std.proofs.lemmas.Grind.{common_steps}
use Rattle.sbx_parts.specs.Rules.{function_keeps}
use Rattle.std.proofs.Common.{rules, arith}
use Rattle.sbx_parts.proofs.checking.FunctionHasRules.check.Goals as goal

pub returns-in_err-check_each : goal.returns-in_err-check_each
unfolding function_keeps
returns-in_err-check_each c = search rules

pub returns-in_err-check_each-2 : goal.returns-in_err-check_each-2
unfolding function_keeps
returns-in_err-check_each-2 c = search rules

pub returns-in_err-next : goal.returns-in_err-next
unfolding function_keeps
returns-in_err-next c = search rules

pub returns : goal.returns
unfolding function_keeps
returns c = search rules

pub overflow_add-result : goal.overflow_add-result
unfolding function_keeps
overflow_add-result c = grind (arith, common_steps)
