use Rattle.std.proofs.Common.{◌≡◌, arith, sym, ◌∙◌, of_z, to_z, w64}
use Rattle.std.proofs.lemmas.Int.{to_z-of_z}
use Rattle.sbx_parts.specs.Regions.{holds}
use Rattle.sbx_parts.proofs.Placing.{pages_behind, found, goes_on, is_done}
use Rattle.sbx_parts.proofs.regions.holds.Goals as goal

pub region_holds-requires : goal.region_holds-requires
region_holds-requires c =
    omega (
      arith,
      c.requires,
      c.loop-region.invariant.1,
      c.loop-region.invariant.2,
      pages_behind c.args.regions.now c.loop-region.region-index c.region-item.result c.loop-region-test.true c.region-item.is,
    )

pub returns-then-region_holds : goal.returns-then-region_holds
unfolding holds
returns-then-region_holds c =
    let low : to_z w64 (of_z w64 c.args.low) ≡ c.args.low = to_z-of_z w64 c.args.low c.ranges.low in
    let high : to_z w64 (of_z w64 c.args.high) ≡ c.args.high = to_z-of_z w64 c.args.high c.ranges.high in
    rw (← low, ← high)
    (found _ _ c.args.writes c.args.regions.now c.loop-region.region-index c.loop-region.start c.region-item.result _ c.loop-region-test.true
    c.region-item.is (sym c.region_holds.ensures ∙ c.if-region_holds.true) c.loop-region.invariant.0)

pub behind-start-requires-clause-small : goal.behind-start-requires-clause-small
behind-start-requires-clause-small c =
    omega (
      arith,
      c.requires,
      c.loop-region.invariant.1,
      c.loop-region.invariant.2,
      pages_behind c.args.regions.now c.loop-region.region-index c.region-item.result c.loop-region-test.true c.region-item.is,
    )

pub loop-region-preserved : goal.loop-region-preserved
loop-region-preserved c = (
  rw c.behind-start.ensures
      (goes_on _ _ c.args.writes c.args.regions.now c.loop-region.region-index c.loop-region.start c.region-item.result _ c.loop-region-test.true
      c.region-item.is (sym c.region_holds.ensures ∙ c.if-region_holds.false) c.loop-region.invariant.0),
  omega (arith, c.behind-start.ensures, c.loop-region.invariant.1),
  omega (arith, c.behind-start.ensures, c.loop-region.invariant.2, pages_behind c.args.regions.now c.loop-region.region-index c.region-item.result c.loop-region-test.true c.region-item.is),
)

pub returns : goal.returns
unfolding holds
returns c =
    let low : to_z w64 (of_z w64 c.args.low) ≡ c.args.low = to_z-of_z w64 c.args.low c.ranges.low in
    let high : to_z w64 (of_z w64 c.args.high) ≡ c.args.high = to_z-of_z w64 c.args.high c.ranges.high in
    rw (← low, ← high) (is_done _ _ c.args.writes c.args.regions.now c.loop-region.region-index c.loop-region.start _ c.loop-region-test.false c.loop-region.invariant.0)
