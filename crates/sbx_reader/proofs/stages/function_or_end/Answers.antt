use Rattle.std.proofs.Common.{arith, rules}
use Rattle.sbx_reader.proofs.Resuming.{ends_here, more_behind}
use Rattle.sbx_reader.proofs.stages.function_or_end.Goals as goal

pub returns-then-is_empty : goal.returns-then-is_empty
returns-then-is_empty c = ends_here c.args.version c.args.end c.args.left c.args.place.1 c.args.place.0 c.args.bytes.now (omega arith) (search rules)

pub returns-else-is_empty : goal.returns-else-is_empty
returns-else-is_empty c = more_behind c.args.version c.args.end c.args.left c.args.place.1 c.args.place.0 c.args.bytes.now (omega arith) (search rules)
