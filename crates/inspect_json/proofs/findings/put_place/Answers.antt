use Rattle.std.proofs.Common.{codes}
use Rattle.inspect_json.specs.Objects.{member_tokens, unsigned}
use Rattle.inspect_json.proofs.Adding.{then_two}
use Rattle.inspect_json.proofs.findings.put_place.Goals as goal

pub returns : goal.returns
returns c =
    then_two c.put_number-2.result c.args.out.now c.put_number.new.out c.put_number-2.new.out
    (member_tokens (codes "line") (unsigned c.args.finding.line)) (member_tokens (codes "column") (unsigned c.args.finding.column))
    c.in_ok-put_number.ensures
    c.put_number-2.ensures
