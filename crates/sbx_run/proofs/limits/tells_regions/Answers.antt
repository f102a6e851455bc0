use Rattle.std.proofs.Common.{sym, subst}
use Rattle.std.proofs.lemmas.List.{drop_all, drop_more}
use Rattle.std.specs.List.{AllByRecursion}
use Rattle.sbx_flat.specs.Runs.{AreBytes}
use Rattle.sbx_image.specs.Spelling.{IsTypedRegion}
use Rattle.sbx_run.proofs.limits.tells_regions.Goals as goal

pub loop-region-preserved : goal.loop-region-preserved
loop-region-preserved c =
    let l = c.loop-region in
    let region = c.region-item.result in
    let here : IsTypedRegion region = subst AreBytes c.as_slice.ensures c.tells_bytes.ensures in
    λ rest. l.invariant (subst (AllByRecursion IsTypedRegion) (sym (drop_more c.args.regions.now l.region-index region c.loop-region-test.true)) (subst IsTypedRegion c.region-item.is here, rest))

pub returns : goal.returns
returns c = c.loop-region.invariant (subst (AllByRecursion IsTypedRegion) (sym (drop_all c.loop-region.region-index c.args.regions.now c.loop-region-test.false)) tt)
