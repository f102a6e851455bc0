use Rattle.std.proofs.Common.{arith, sym}
use Rattle.std.specs.Prelude.{length}
use Rattle.std.proofs.lemmas.Bool.{le-ltb, lt-ltb}
use Rattle.sbx_parts.specs.Regions.{page_rights}
use Rattle.sbx_parts.proofs.Placing.{pages_behind}
use Rattle.sbx_asm.proofs.Pages.{none_behind}
use Rattle.sbx_asm.proofs.finish.pass_pages.Goals as goal

pub returns-then-pages-left : goal.returns-then-pages-left
returns-then-pages-left c =
    sym (lt-ltb 64 (length (page_rights c.args.regions.now))
    (omega (
      arith,
      c.if-pages-left.true,
      c.pages_for-pages.ensures,
      c.loop-region.invariant.0,
      c.loop-region.invariant.1,
      pages_behind c.args.regions.now c.loop-region.region-index c.region-item.result c.loop-region-test.true c.region-item.is,
    )))

pub loop-region-preserved : goal.loop-region-preserved
loop-region-preserved c = (
  omega (arith, c.loop-region.invariant.0),
  omega (
    arith,
    c.if-pages-left.false,
    c.pages_for-pages.ensures,
    c.loop-region.invariant.1,
    pages_behind c.args.regions.now c.loop-region.region-index c.region-item.result c.loop-region-test.true c.region-item.is,
  ),
)

pub returns : goal.returns
returns c =
    sym (le-ltb 64 (length (page_rights c.args.regions.now))
    (omega (
      arith,
      c.loop-region.invariant.0,
      c.loop-region.invariant.1,
      none_behind c.args.regions.now c.loop-region.region-index c.loop-region-test.false,
    )))
