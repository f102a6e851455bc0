use Rattle.std.proofs.Common.{◌∷◌, [], codes, length}
use Rattle.json.specs.Json.{boolean}
use Rattle.json.specs.Token.{begin_object, end_object}
use Rattle.inspect_json.specs.Objects.{member_tokens, unsigned}
use Rattle.inspect_json.proofs.Adding.{then_five}
use Rattle.inspect_json.proofs.images.put_region.Goals as goal

pub returns : goal.returns
returns c =
    then_five c.close_object.result c.args.out.now c.open_object.new.out c.put_word.new.out c.put_byte_count.new.out c.put_flag.new.out c.close_object.new.out
    (begin_object ∷ []) (member_tokens (codes "address") (unsigned c.args.start)) (member_tokens (codes "bytes") (unsigned (length c.args.region.now.bytes)))
    (member_tokens (codes "writable") (boolean c.args.region.now.writable)) (end_object ∷ [])
    c.in_ok-open_object.ensures c.in_ok-put_word.ensures c.in_ok-put_byte_count.ensures c.in_ok-put_flag.ensures
    c.close_object.ensures
