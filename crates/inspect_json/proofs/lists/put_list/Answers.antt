use Rattle.std.proofs.Common.{◌∷◌, [], ◌++◌, List, map, refl, subst}
use Rattle.std.proofs.lemmas.Result.{on_ok_weaker}
use Rattle.json.specs.Token.{Token, begin_array, end_array}
use Rattle.json.specs.Tree.{json_tokens}
use Rattle.inspect_json.specs.Objects.{Adds, array_of}
use Rattle.inspect_json.proofs.Adding.{all_told, both, one_more}
use Rattle.inspect_json.proofs.lists.put_list.Goals as goal

pub loop-item-init : goal.loop-item-init
loop-item-init g c = (begin_array ∷ [], c.in_ok-open_array.ensures, refl)

pub loop-item-preserved : goal.loop-item-preserved
loop-item-preserved g c =
    let (done, adds, left) = c.loop-item.invariant in
    let told = g.T.Told.told in (
      done ++ json_tokens (told c.item-item.result),
      both c.args.out.now c.loop-item.out c.put.new.out done (json_tokens (told c.item-item.result)) adds c.in_ok-put.ensures,
      one_more told done (json_tokens (array_of (map told c.args.items.now))) c.loop-item.item-index c.args.items.now c.item-item.result c.loop-item-test.true c.item-item.is left,
    )

pub returns : goal.returns
returns g c =
    let (done, adds, left) = c.loop-item.invariant in
    let told = g.T.Told.told in
    let whole : List Token = json_tokens (array_of (map told c.args.items.now)) in
    on_ok_weaker c.close_array.result
    (λ (last : Adds c.loop-item.out c.close_array.new.out (end_array ∷ [])).
    subst (λ (ts : List Token). Adds c.args.out.now c.close_array.new.out ts) (all_told told done whole c.loop-item.item-index c.args.items.now c.loop-item-test.false left)
    (both c.args.out.now c.loop-item.out c.close_array.new.out done (end_array ∷ []) adds last))
    c.close_array.ensures
