use Rattle.std.proofs.Common.{ap}
use Rattle.sbx_asm.specs.Items.{label_names, read_line}
use Rattle.sbx_asm.proofs.reading.Line.with_fault.Goals as goal

pub returns : goal.returns
unfolding label_names
returns c = λ read. ap (read_line c.args.number c.args.bytes.now) read
