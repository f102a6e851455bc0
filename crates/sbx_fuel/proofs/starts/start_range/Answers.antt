use Rattle.std.proofs.Common.{◌∙◌, sym, arith}
use Rattle.sbx_rules.specs.Ways.{cells_of}
use Rattle.sbx_fuel.proofs.Counting.{no_location_0, no_location_past, not_started, started_at}
use Rattle.sbx_fuel.proofs.starts.start_range.Goals as goal
use Rattle.sbx_fuel.proofs.starts.start_range.Goals.{else-location-gt0-via-then-location-gt0+else-from-lt-LOCATIONS, else-location-gt0-via-else-location-gt0}

pub returns-then-from-lt-LOCATIONS : goal.returns-then-from-lt-LOCATIONS
returns-then-from-lt-LOCATIONS c =
    c.cell_at.ensures ∙ sym (started_at (cells_of c.args.function.now c.args.number c.args.block.now) c.args.location c.if-location-gt0.true (omega arith))

pub returns-else-location-gt0 : goal.returns-else-location-gt0
returns-else-location-gt0 c =
    let cells = cells_of c.args.function.now c.args.number c.args.block.now in
    elim c.else-location-gt0.branch [
      | else-location-gt0-via-then-location-gt0+else-from-lt-LOCATIONS w ↦ sym (not_started cells c.args.location (no_location_past c.args.location (omega arith)))
      | else-location-gt0-via-else-location-gt0 w ↦ sym (not_started cells c.args.location (no_location_0 c.args.location (omega arith)))
    ]
