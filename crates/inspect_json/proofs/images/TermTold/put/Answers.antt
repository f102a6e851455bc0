use Rattle.std.proofs.Common.{◌∷◌, [], codes}
use Rattle.json.specs.Token.{begin_object, end_object}
use Rattle.inspect_json.specs.Objects.{member_tokens, signed}
use Rattle.inspect_json.specs.Images.{location_json}
use Rattle.inspect_json.proofs.Adding.{then_four}
use Rattle.inspect_json.proofs.images.TermTold.put.Goals as goal

pub returns : goal.returns
returns c =
    then_four c.close_object.result c.args.out.now c.open_object.new.out c.put_location.new.out c.put_coefficient.new.out c.close_object.new.out
    (begin_object ∷ []) (member_tokens (codes "location") (location_json c.args.self.now.location)) (member_tokens (codes "coefficient") (signed c.args.self.now.coefficient)) (end_object ∷ [])
    c.in_ok-open_object.ensures c.in_ok-put_location.ensures c.in_ok-put_coefficient.ensures
    c.close_object.ensures
