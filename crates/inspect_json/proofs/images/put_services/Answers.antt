use Rattle.std.proofs.Common.{◌∷◌, [], ◌/◌, ◌%◌, codes}
use Rattle.std.specs.Prelude.{◌==◌}
use Rattle.json.specs.Json.{boolean}
use Rattle.json.specs.Token.{begin_object, end_object}
use Rattle.inspect_json.specs.Objects.{key_tokens, member_tokens}
use Rattle.inspect_json.proofs.Adding.{then_six}
use Rattle.inspect_json.proofs.images.put_services.Goals as goal

pub returns : goal.returns
returns c =
    then_six c.close_object.result c.args.out.now c.put_key.new.out c.open_object.new.out c.put_flag.new.out c.put_flag-2.new.out c.put_flag-3.new.out c.close_object.new.out
    (key_tokens (codes "services")) (begin_object ∷ []) (member_tokens (codes "exit") (boolean (c.args.services.0 % 2 == 1)))
    (member_tokens (codes "get") (boolean (c.args.services.0 / 2 % 2 == 1))) (member_tokens (codes "put") (boolean (c.args.services.0 / 4 % 2 == 1)))
    (end_object ∷ [])
    c.in_ok-put_key.ensures c.in_ok-open_object.ensures c.in_ok-put_flag.ensures c.in_ok-put_flag-2.ensures c.in_ok-put_flag-3.ensures
    c.close_object.ensures
