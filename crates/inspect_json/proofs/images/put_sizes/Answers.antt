use Rattle.std.proofs.Common.{codes}
use Rattle.inspect_json.specs.Objects.{member_tokens, unsigned}
use Rattle.inspect_json.specs.Images.{services_json}
use Rattle.inspect_json.proofs.Adding.{then_five}
use Rattle.inspect_json.proofs.images.put_sizes.Goals as goal

pub returns : goal.returns
returns c =
    then_five c.put_word-2.result c.args.out.now c.put_half.new.out c.put_services.new.out c.put_half-2.new.out c.put_word.new.out c.put_word-2.new.out
    (member_tokens (codes "version") (unsigned c.args.version)) (member_tokens (codes "services") (services_json c.args.services.0))
    (member_tokens (codes "stack_pages") (unsigned c.args.pages)) (member_tokens (codes "words") (unsigned c.args.words))
    (member_tokens (codes "data_bytes") (unsigned c.args.bytes))
    c.in_ok-put_half.ensures c.in_ok-put_services.ensures c.in_ok-put_half-2.ensures c.in_ok-put_word.ensures
    c.put_word-2.ensures
