use Rattle.std.proofs.Common.{codes}
use Rattle.inspect_json.specs.Objects.{member_tokens, unsigned}
use Rattle.inspect_json.proofs.Adding.{then_two}
use Rattle.inspect_json.proofs.verdicts.put_place.Goals as goal

pub returns : goal.returns
returns c =
    then_two c.put_word.result c.args.out.now c.put_half.new.out c.put_word.new.out
    (member_tokens (codes "function") (unsigned c.args.refusal.function)) (member_tokens (codes "address") (unsigned c.args.refusal.address))
    c.in_ok-put_half.ensures
    c.put_word.ensures
