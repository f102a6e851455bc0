use Rattle.std.proofs.lemmas.Grind.{common_steps}
use Rattle.std.proofs.Common.{arith}
use Rattle.sbx_parts.proofs.Placing.{bytes_behind, no_bytes_behind}
use Rattle.sbx_parts.proofs.regions.byte_count.Goals as goal

pub loop-region-preserved : goal.loop-region-preserved
loop-region-preserved c = omega (arith, c.loop-region.invariant, bytes_behind c.args.regions.now c.loop-region.region-index c.region-item.result c.loop-region-test.true c.region-item.is)

pub returns : goal.returns
returns c = omega (arith, c.loop-region.invariant, no_bytes_behind c.args.regions.now c.loop-region.region-index c.loop-region-test.false)

pub overflow_cast-count : goal.overflow_cast-count
overflow_cast-count c = grind (arith, common_steps)

pub overflow_add-count : goal.overflow_add-count
overflow_add-count c = grind (arith, common_steps)
