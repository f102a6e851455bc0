use Rattle.std.proofs.Common.{◌≡◌, List, ◌++◌, drop, map}
use Rattle.json.specs.Token.{Token}
use Rattle.json.specs.Tree.{items_tokens, json_tokens}
use Rattle.inspect_json.specs.Objects.{Adds, array_of, items_of}
use Rattle.inspect_json.proofs.lists.put_list.Given as goal

-- what was written, and the values that are left
abbrev pub invariant-loop-item : goal.invariant-loop-item
invariant-loop-item g l =
    (done : List Token) × Adds l.fn.out l.out done
    × (done ++ items_tokens (items_of (map g.T.Told.told (drop l.item-index l.items))) ≡ json_tokens (array_of (map g.T.Told.told l.items)))
