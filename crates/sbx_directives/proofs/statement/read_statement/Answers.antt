use Rattle.sbx_directives.specs.Directives.{statement_of}
use Rattle.std.proofs.Common.{rules}
use Rattle.sbx_directives.proofs.statement.read_statement.Goals as goal

pub returns-in-None : goal.returns-in-None
unfolding statement_of
returns-in-None c = search rules
