use Rattle.std.proofs.Common.{rules}
use Rattle.v8_memory.proofs.ram.all_bytes.Goals as goal

pub returns : goal.returns
returns c = λ i. search rules
