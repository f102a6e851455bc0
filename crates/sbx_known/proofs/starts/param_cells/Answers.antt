use Rattle.std.proofs.Common.{pos}
use Rattle.sbx_image.specs.Range.{Range}
use Rattle.sbx_known.proofs.Params.{six_cells}
use Rattle.sbx_known.proofs.starts.param_cells.Goals as goal

pub returns-clause-cells : goal.returns-clause-cells
returns-clause-cells c =
    let none : Range = record { lo = pos 0; hi = pos 0; alignment = 0 } in
    cc (six_cells c.args.params.now none c.requires, c.param_cell.ensures, c.param_cell-2.ensures, c.param_cell-3.ensures, c.param_cell-4.ensures, c.param_cell-5.ensures, c.param_cell-6.ensures)
