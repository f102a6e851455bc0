use Rattle.std.proofs.Common.{codes}
use Rattle.inspect_json.specs.Objects.{member_tokens, unsigned}
use Rattle.inspect_json.proofs.Adding.{then_five}
use Rattle.inspect_json.proofs.runs.put_counts.Goals as goal

pub returns : goal.returns
returns c =
    then_five c.put_number-4.result c.args.out.now c.put_number.new.out c.put_number-2.new.out c.put_word.new.out c.put_number-3.new.out c.put_number-4.new.out
    (member_tokens (codes "turns") (unsigned c.args.run.now.raw.outcome.turns)) (member_tokens (codes "limit") (unsigned c.args.limit))
    (member_tokens (codes "windows") (unsigned c.args.windows)) (member_tokens (codes "overflows") (unsigned c.args.run.now.raw.outcome.overflows))
    (member_tokens (codes "underflows") (unsigned c.args.run.now.raw.outcome.underflows))
    c.in_ok-put_number.ensures c.in_ok-put_number-2.ensures c.in_ok-put_word.ensures c.in_ok-put_number-3.ensures
    c.put_number-4.ensures
