use Rattle.std.proofs.Common.{[], ◌∷◌, codes, map}
use Rattle.json.specs.Json.{boolean, string}
use Rattle.json.specs.Token.{begin_object, end_object}
use Rattle.inspect_json.specs.Objects.{array_of, member_tokens}
use Rattle.inspect_json.specs.Findings.{finding_json, is_nothing}
use Rattle.inspect_json.proofs.Adding.{then_five}
use Rattle.inspect_json.proofs.findings.put_check.Goals as goal

pub returns : goal.returns
returns c =
    then_five c.close_object.result c.args.out.now c.open_object.new.out c.put_acceptance.new.out c.put_member.new.out c.put_text.new.out c.close_object.new.out
    (begin_object ∷ []) (member_tokens (codes "accepted") (boolean (is_nothing c.args.findings.now))) (member_tokens (codes "faults") (array_of (map finding_json c.args.findings.now)))
    (member_tokens (codes "text") (string c.args.text.now)) (end_object ∷ [])
    c.in_ok-open_object.ensures c.in_ok-put_acceptance.ensures c.in_ok-put_member.ensures c.in_ok-put_text.ensures
    c.close_object.ensures
