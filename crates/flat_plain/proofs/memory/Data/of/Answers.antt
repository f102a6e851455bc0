use Rattle.std.proofs.Common.{rules}
use Rattle.flat_plain.proofs.Cells.{cells_hold}
use Rattle.flat_plain.proofs.memory.Data.of.Goals as goal

pub returns : goal.returns
returns c = cells_hold c.args.regions.now _ (search rules)
