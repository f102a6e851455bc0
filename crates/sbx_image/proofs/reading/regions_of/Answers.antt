use Rattle.std.proofs.Common.{arith}
use Rattle.std.proofs.lemmas.Grind.{common_steps}
use Rattle.std.proofs.lemmas.Result.{err_from_is_err_and}
use Rattle.sbx_image.specs.Reading.{regions_at}
use Rattle.sbx_image.proofs.Lengths.{goes_on, ends, is_done}
use Rattle.sbx_image.proofs.reading.regions_of.Goals as goal

pub returns-in_err-own : goal.returns-in_err-own
returns-in_err-own c =
    let p = err_from_is_err_and c.from_residual-in_err-own.result c.from_residual-in_err-own.ensures.1 in
    let shapes = c.args.shapes.now in
    rw (p.1, p.2)
    (λ kept. ends c.in_err-own.field-0.0 c.loop-shape.regions.items shapes c.loop-shape.shape-index c.loop-shape.rest.now
    (regions_at shapes c.args.bytes.now) c.loop-shape-test.true (c.in_err-own.ensures kept) c.loop-shape.invariant)

pub loop-shape-preserved : goal.loop-shape-preserved
loop-shape-preserved c =
    let shapes = c.args.shapes.now in
    rw (c.in_ok-push.ensures.items, c.new.ensures)
    (goes_on c.loop-shape.regions.items shapes c.loop-shape.shape-index c.loop-shape.rest.now c.in_ok-own.own.items c.in_ok-own.after.now
    (regions_at shapes c.args.bytes.now) c.loop-shape-test.true c.in_ok-own.ensures c.loop-shape.invariant)

pub returns : goal.returns
returns c = is_done c.loop-shape.regions.items c.args.shapes.now c.loop-shape.shape-index c.loop-shape.rest.now
    (regions_at c.args.shapes.now c.args.bytes.now) c.loop-shape-test.false c.loop-shape.invariant

pub offset_bounds-shapes-shape-index : goal.offset_bounds-shapes-shape-index
offset_bounds-shapes-shape-index c = grind (arith, common_steps)
