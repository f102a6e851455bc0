use Rattle.std.proofs.Common.{arith}
use Rattle.sbx_image.proofs.Lengths.{bytes_behind, no_bytes_behind}
use Rattle.sbx_image.proofs.reading.shape_bytes.Goals as goal

pub overflow_add-count : goal.overflow_add-count
overflow_add-count c = omega (arith, c.requires, c.loop-shape.invariant, bytes_behind c.args.shapes.now c.loop-shape.shape-index c.loop-shape-test.true)

pub loop-shape-preserved : goal.loop-shape-preserved
loop-shape-preserved c = omega (arith, c.loop-shape.invariant, bytes_behind c.args.shapes.now c.loop-shape.shape-index c.loop-shape-test.true)

pub returns : goal.returns
returns c = omega (arith, c.loop-shape.invariant, no_bytes_behind c.args.shapes.now c.loop-shape.shape-index c.loop-shape-test.false)
