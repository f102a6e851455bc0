use Rattle.std.proofs.Common.{◌∙◌, sym}
use Rattle.sbx_rules.specs.Ways.{cells_of}
use Rattle.sbx_fuel.proofs.Counting.{names_is}
use Rattle.sbx_fuel.proofs.starts.names.Goals as goal

pub returns : goal.returns
returns c = c.is_some.ensures ∙ sym (names_is (cells_of c.args.function.now c.args.number c.args.block.now) c.args.location c.cell_at.result c.cell_at.ensures)
