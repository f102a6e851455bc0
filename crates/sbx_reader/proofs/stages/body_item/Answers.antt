use Rattle.std.proofs.Common.{rules}
use Rattle.sbx_reader.proofs.Resuming.{body_lacks, body_whole}
use Rattle.sbx_reader.proofs.stages.body_item.Goals as goal

pub returns-then-bytes-count : goal.returns-then-bytes-count
returns-then-bytes-count c = body_lacks c.args.count c.args.version c.args.end c.args.left c.args.bytes.now c.requires (search rules)

pub returns : goal.returns
returns c = body_whole c.args.count c.args.version c.args.end c.args.left c.args.bytes.now c.requires (search rules)
