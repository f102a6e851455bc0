use Rattle.std.proofs.Common.{◌∷◌, [], codes, true}
use Rattle.json.specs.Json.{boolean}
use Rattle.json.specs.Token.{begin_object, end_object}
use Rattle.inspect_json.specs.Objects.{member_tokens}
use Rattle.inspect_json.proofs.Adding.{then_three}
use Rattle.inspect_json.proofs.verdicts.put_accepted.Goals as goal

pub returns : goal.returns
returns c =
    then_three c.close_object.result c.args.out.now c.open_object.new.out c.put_flag.new.out c.close_object.new.out
    (begin_object ∷ []) (member_tokens (codes "accepted") (boolean true)) (end_object ∷ [])
    c.in_ok-open_object.ensures c.in_ok-put_flag.ensures
    c.close_object.ensures
