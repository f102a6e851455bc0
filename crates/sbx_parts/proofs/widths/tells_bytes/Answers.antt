use Rattle.std.proofs.Common.{rules}
use Rattle.sbx_parts.proofs.widths.tells_bytes.Goals as goal

pub returns : goal.returns
returns c = λ i. search rules
