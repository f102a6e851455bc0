use Rattle.std.proofs.Common.{[], ◌∷◌, ◌++◌, List, map, refl, subst, arith}
use Rattle.std.proofs.lemmas.Result.{on_ok_weaker}
use Rattle.json.specs.Token.{Token, begin_array, end_array}
use Rattle.json.specs.Tree.{json_tokens}
use Rattle.sbx_image.specs.Regions.{placed}
use Rattle.sbx_image.proofs.Placing.{pages_behind}
use Rattle.inspect_json.specs.Objects.{Adds, array_of}
use Rattle.inspect_json.specs.Images.{region_json}
use Rattle.inspect_json.proofs.Adding.{both}
use Rattle.inspect_json.proofs.Pieces.{region_more, regions_told}
use Rattle.inspect_json.proofs.images.put_placed.Goals as goal

pub behind-start-requires-clause-start : goal.behind-start-requires-clause-start
behind-start-requires-clause-start c = omega (arith, c.loop-region.invariant.2)

pub behind-start-requires-clause-small : goal.behind-start-requires-clause-small
behind-start-requires-clause-small c =
    omega (
      arith,
      c.loop-region.invariant.1,
      c.loop-region.invariant.2,
      pages_behind c.args.regions.now c.loop-region.region-index c.region-item.result c.loop-region-test.true c.region-item.is,
    )

pub loop-region-init : goal.loop-region-init
loop-region-init c = ((begin_array ∷ [], c.in_ok-open_array.ensures, refl), omega arith, omega arith)

pub loop-region-preserved : goal.loop-region-preserved
loop-region-preserved c =
    let (done, adds, left) = c.loop-region.invariant.0 in
    let one : List Token = json_tokens (region_json (record { address = c.loop-region.start; bytes = c.region-item.result.bytes; writable = c.region-item.result.writable })) in
    let total : List Token = json_tokens (array_of (map region_json (placed c.args.regions.now))) in (
      (
        done ++ one,
        both c.args.out.now c.loop-region.out c.put_region.new.out done one adds c.in_ok-put_region.ensures,
        region_more done total c.loop-region.start c.behind-start.result c.loop-region.region-index c.args.regions.now c.region-item.result
            c.loop-region-test.true c.region-item.is c.behind-start.ensures left,
      ),
      omega (arith, c.behind-start.ensures, c.loop-region.invariant.1),
      omega (arith, c.behind-start.ensures, c.loop-region.invariant.2, pages_behind c.args.regions.now c.loop-region.region-index c.region-item.result c.loop-region-test.true c.region-item.is),
    )

pub returns : goal.returns
returns c =
    let (done, adds, left) = c.loop-region.invariant.0 in
    let total : List Token = json_tokens (array_of (map region_json (placed c.args.regions.now))) in
    on_ok_weaker c.close_array.result
    (λ (last : Adds c.loop-region.out c.close_array.new.out (end_array ∷ [])).
    subst (λ (ts : List Token). Adds c.args.out.now c.close_array.new.out ts) (regions_told done total c.loop-region.start c.loop-region.region-index c.args.regions.now c.loop-region-test.false left)
    (both c.args.out.now c.loop-region.out c.close_array.new.out done (end_array ∷ []) adds last))
    c.close_array.ensures
