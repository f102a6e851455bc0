use Rattle.std.proofs.Common.{[], ◌∷◌, ◌++◌, List, codes, map, subst, arith}
use Rattle.std.proofs.lemmas.Grind.{common_steps}
use Rattle.std.proofs.lemmas.Result.{on_ok_weaker}
use Rattle.json.specs.Token.{Token, begin_object, end_object}
use Rattle.sbx_image.specs.Regions.{placed}
use Rattle.inspect_json.specs.Objects.{Adds, array_of, member_tokens}
use Rattle.inspect_json.specs.Images.{function_json, region_json, size_tokens}
use Rattle.inspect_json.proofs.Adding.{then_five}
use Rattle.inspect_json.proofs.Pieces.{whole_image}
use Rattle.inspect_json.proofs.images.put_image.Goals as goal

pub put_regions-requires : goal.put_regions-requires
put_regions-requires c = grind (arith, common_steps)

pub returns : goal.returns
returns c =
    let sizes : List Token = size_tokens c.version.result c.services.result.0 c.stack_pages.result c.word_count.result c.byte_count.result in
    let regions : List Token = member_tokens (codes "regions") (array_of (map region_json (placed c.regions.result.now))) in
    let functions : List Token = member_tokens (codes "functions") (array_of (map function_json c.functions.result.now)) in
    on_ok_weaker c.close_object.result
    (λ (all : Adds c.args.out.now c.close_object.new.out ((begin_object ∷ []) ++ (sizes ++ (regions ++ (functions ++ (end_object ∷ [])))))).
    subst (λ (ts : List Token). Adds c.args.out.now c.close_object.new.out ts)
    (whole_image c.args.image.now c.services.result c.version.result c.stack_pages.result c.word_count.result c.byte_count.result c.regions.result.now c.functions.result.now
    c.version.ensures.value c.services.ensures c.stack_pages.ensures.count c.word_count.ensures.count c.byte_count.ensures.count c.regions.ensures.value c.functions.ensures.value) all)
    (then_five c.close_object.result c.args.out.now c.open_object.new.out c.put_sizes.new.out c.put_regions.new.out c.put_member.new.out c.close_object.new.out
    (begin_object ∷ []) sizes regions functions (end_object ∷ [])
    c.in_ok-open_object.ensures c.in_ok-put_sizes.ensures c.in_ok-put_regions.ensures c.in_ok-put_member.ensures c.close_object.ensures)
