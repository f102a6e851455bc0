use Rattle.std.proofs.Common.{rules}
use Rattle.sbx_raw.proofs.port.all_bytes.Goals as goal

pub returns : goal.returns
returns c = λ i. search rules
