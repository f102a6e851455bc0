use Rattle.std.proofs.Common.{codes}
use Rattle.inspect_json.specs.Objects.{member_tokens, signed, unsigned}
use Rattle.inspect_json.proofs.Adding.{then_three}
use Rattle.inspect_json.proofs.images.put_range.Goals as goal

pub returns : goal.returns
returns c =
    then_three c.put_byte.result c.args.out.now c.put_low.new.out c.put_high.new.out c.put_byte.new.out
    (member_tokens (codes "low") (signed c.args.range.lo)) (member_tokens (codes "high") (signed c.args.range.hi)) (member_tokens (codes "alignment") (unsigned c.args.range.alignment))
    c.in_ok-put_low.ensures c.in_ok-put_high.ensures
    c.put_byte.ensures
