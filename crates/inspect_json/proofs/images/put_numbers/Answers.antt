use Rattle.std.proofs.Common.{codes}
use Rattle.json.specs.Json.{boolean}
use Rattle.inspect_json.specs.Objects.{member_tokens, unsigned}
use Rattle.inspect_json.specs.Images.{is_framed}
use Rattle.inspect_json.proofs.Adding.{then_six}
use Rattle.inspect_json.proofs.images.put_numbers.Goals as goal

pub returns : goal.returns
returns c =
    then_six c.put_half.result c.args.out.now c.put_word.new.out c.put_kind.new.out c.put_word-2.new.out c.put_word-3.new.out c.put_number.new.out c.put_half.new.out
    (member_tokens (codes "address") (unsigned c.args.function.now.entry)) (member_tokens (codes "framed") (boolean (is_framed c.args.function.now.kind)))
    (member_tokens (codes "frame") (unsigned c.args.function.now.frame)) (member_tokens (codes "room") (unsigned c.args.function.now.stack_room))
    (member_tokens (codes "budget") (unsigned c.args.function.now.budget)) (member_tokens (codes "depth") (unsigned c.args.function.now.depth))
    c.in_ok-put_word.ensures c.in_ok-put_kind.ensures c.in_ok-put_word-2.ensures c.in_ok-put_word-3.ensures c.in_ok-put_number.ensures
    c.put_half.ensures
