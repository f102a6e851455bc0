use Rattle.std.proofs.Common.{◌∷◌, [], codes, map}
use Rattle.json.specs.Token.{begin_object, end_object}
use Rattle.inspect_json.specs.Objects.{array_of, member_tokens}
use Rattle.inspect_json.specs.Images.{block_json, number_tokens, range_json}
use Rattle.inspect_json.proofs.Adding.{then_six}
use Rattle.inspect_json.proofs.images.FunctionTold.put.Goals as goal

pub returns : goal.returns
returns c =
    then_six c.close_object.result c.args.out.now c.open_object.new.out c.put_numbers.new.out c.put_items.new.out c.put_items-2.new.out c.put_items-3.new.out c.close_object.new.out
    (begin_object ∷ []) (number_tokens c.args.self.now) (member_tokens (codes "params") (array_of (map range_json c.args.self.now.params)))
    (member_tokens (codes "results") (array_of (map range_json c.args.self.now.results)))
    (member_tokens (codes "blocks") (array_of (map block_json c.args.self.now.blocks))) (end_object ∷ [])
    c.in_ok-open_object.ensures c.in_ok-put_numbers.ensures c.in_ok-put_items.ensures c.in_ok-put_items-2.ensures c.in_ok-put_items-3.ensures
    c.close_object.ensures
