use Rattle.std.proofs.Common.{rules}
use Rattle.sbx_directives.specs.Directives.{directive_of}
use Rattle.sbx_directives.proofs.statement.directive_of.Goals as goal

pub returns-in_ok-natural_in-in-Depth : goal.returns-in_ok-natural_in-in-Depth
unfolding directive_of
returns-in_ok-natural_in-in-Depth c = search rules

pub returns-in_err-one-in-Depth : goal.returns-in_err-one-in-Depth
unfolding directive_of
returns-in_err-one-in-Depth c = search rules

pub returns-in_err-natural_in-in-Depth : goal.returns-in_err-natural_in-in-Depth
unfolding directive_of
returns-in_err-natural_in-in-Depth c = search rules

pub overflow_cast-result-in-Depth : goal.overflow_cast-result-in-Depth
unfolding directive_of
overflow_cast-result-in-Depth c = search rules
