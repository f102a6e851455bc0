use Rattle.std.proofs.Common.{◌∷◌, []}
use Rattle.json.specs.Token.{begin_object, end_object}
use Rattle.inspect_json.specs.Images.{range_tokens}
use Rattle.inspect_json.proofs.Adding.{then_three}
use Rattle.inspect_json.proofs.images.RangeTold.put.Goals as goal

pub returns : goal.returns
returns c =
    then_three c.close_object.result c.args.out.now c.open_object.new.out c.put_range.new.out c.close_object.new.out
    (begin_object ∷ []) (range_tokens c.args.self.now) (end_object ∷ [])
    c.in_ok-open_object.ensures c.in_ok-put_range.ensures
    c.close_object.ensures
