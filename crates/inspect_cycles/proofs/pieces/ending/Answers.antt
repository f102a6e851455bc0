use Rattle.std.proofs.Common.{arith}
use Rattle.sbx_flat.specs.Runs.{weight_of}
use Rattle.sbx_flat.proofs.Turns.{operation_weighs}
use Rattle.inspect_cycles.specs.Cycles.{cycles_of, slot_cycles}
use Rattle.inspect_cycles.specs.Pieces.{ends_piece, is_branch, longer}
use Rattle.inspect_cycles.proofs.Blocks.{chosen_some, one_chosen}
use Rattle.inspect_cycles.proofs.pieces.ending.Goals as goal

pub returns-clause-is : goal.returns-clause-is
returns-clause-is c =
    let spot = c.args.spot.now in
    one_chosen (ends_piece spot.before spot.operation spot.number spot.count) (is_branch spot.before)
    (longer c.args.piece (cycles_of c.args.table.now spot.operation) (weight_of spot.operation)) (longer c.args.piece (slot_cycles c.args.table.now) 1)
    c.whole.result c.annulled.result c.dearer.result c.whole.ensures c.annulled.ensures c.dearer.ensures.is

pub returns-clause-some : goal.returns-clause-some
returns-clause-some c =
    let spot = c.args.spot.now in
    let piece = c.args.piece in
    let weighs = operation_weighs spot.operation in
    c.dearer.ensures.some
    (chosen_some (ends_piece spot.before spot.operation spot.number spot.count) (longer piece (cycles_of c.args.table.now spot.operation) (weight_of spot.operation)) c.whole.result (omega (arith, weighs)) c.whole.ensures)
    (chosen_some (is_branch spot.before) (longer piece (slot_cycles c.args.table.now) 1) c.annulled.result (omega arith) c.annulled.ensures)
