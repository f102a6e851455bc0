use Rattle.std.proofs.Common.{arith}
use Rattle.sbx_port.proofs.Tracked.{byte_comes}
use Rattle.sbx_port.proofs.mailbox.tells_byte.Goals as goal

pub returns : goal.returns
returns c = byte_comes c.args.byte (omega arith)
