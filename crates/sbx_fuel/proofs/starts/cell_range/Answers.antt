use Rattle.std.proofs.Common.{◌∙◌, pos, ap, sym}
use Rattle.sbx_image.specs.Cell.{Cell}
use Rattle.sbx_rules.specs.Known.{range_of_entry}
use Rattle.sbx_fuel.proofs.Counting.{cell_here, cell_past, cells_done}
use Rattle.sbx_fuel.proofs.starts.cell_range.Goals as goal

none : Cell
none = record { location = 0; range = record { lo = pos 0; hi = pos 0; alignment = 0 } }

pub returns-then-cell-location : goal.returns-then-cell-location
unfolding none
returns-then-cell-location c =
    sym (ap range_of_entry (sym c.loop-cell.invariant ∙ cell_here c.args.cells.now c.loop-cell.cell-index none c.args.location c.loop-cell-test.true c.if-cell-location.true))

pub loop-cell-preserved : goal.loop-cell-preserved
unfolding none
loop-cell-preserved c =
    sym (cell_past c.args.cells.now c.loop-cell.cell-index none c.args.location c.loop-cell-test.true c.if-cell-location.false) ∙ c.loop-cell.invariant

pub returns : goal.returns
returns c = sym (ap range_of_entry (sym c.loop-cell.invariant ∙ cells_done c.args.cells.now c.loop-cell.cell-index c.args.location c.loop-cell-test.false))
