use Rattle.std.proofs.Common.{arith}
use Rattle.sbx_reader.proofs.Resuming.{behind_body, last_block}
use Rattle.sbx_reader.proofs.stages.whole_item.Goals as goal

pub returns-else-blocks-gt0 : goal.returns-else-blocks-gt0
returns-else-blocks-gt0 c =
    last_block c.in-Blocks.version c.in-Blocks.end c.in-Blocks.left c.in-Blocks.total c.in-Blocks.blocks c.in-Blocks.next c.args.stage c.args.bytes.now _
    c.in-Blocks.is (omega arith) c.function_or_end-else-blocks-gt0.ensures

pub returns-else-count-gt0 : goal.returns-else-count-gt0
returns-else-count-gt0 c = behind_body c.in-Body.count c.in-Body.version c.in-Body.end c.in-Body.left c.args.stage c.args.bytes.now _ c.in-Body.is (omega arith) c.function_or_end.ensures
