use Rattle.std.proofs.Common.{arith}
use Rattle.std.proofs.lemmas.Grind.{common_steps}
use Rattle.sbx_parts.proofs.Placing.{starts_nowhere}
use Rattle.sbx_parts.proofs.regions.start_of.Goals as goal

pub returns : goal.returns
returns c = starts_nowhere c.args.regions.now c.loop-region.region-index c.loop-region.start c.loop-region.before _ c.loop-region-test.false c.loop-region.invariant.0

pub loop-region-preserved : goal.loop-region-preserved
loop-region-preserved c = grind (arith, common_steps)
