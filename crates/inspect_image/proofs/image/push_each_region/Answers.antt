use Rattle.std.proofs.lemmas.Grind.{common_steps}
use Rattle.std.proofs.Common.{arith, string_bytes}
use Rattle.sbx_image.proofs.Placing.{pages_behind}
use Rattle.inspect_image.proofs.Texts.{region_more}
use Rattle.inspect_image.proofs.image.push_each_region.Goals as goal

pub behind-start-requires-clause-start : goal.behind-start-requires-clause-start
behind-start-requires-clause-start c = omega (arith, c.loop-region.invariant.2)

pub behind-start-requires-clause-small : goal.behind-start-requires-clause-small
behind-start-requires-clause-small c =
    omega (
      arith,
      c.loop-region.invariant.1,
      c.loop-region.invariant.2,
      pages_behind c.args.regions.now c.loop-region.region-index c.region-item.result c.loop-region-test.true c.region-item.is,
    )

pub loop-region-preserved : goal.loop-region-preserved
loop-region-preserved c = (
  region_more (string_bytes c.loop-region.out) (string_bytes c.push_region.new.out) _ c.loop-region.start c.behind-start.result c.loop-region.region-index c.args.regions.now c.region-item.result
      c.loop-region-test.true c.region-item.is c.behind-start.ensures c.in_ok-push_region.ensures c.loop-region.invariant.0,
  omega (arith, c.behind-start.ensures, c.loop-region.invariant.1),
  omega (arith, c.behind-start.ensures, c.loop-region.invariant.2, pages_behind c.args.regions.now c.loop-region.region-index c.region-item.result c.loop-region-test.true c.region-item.is),
)

pub returns : goal.returns
returns c = grind (arith, common_steps)
