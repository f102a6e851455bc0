use Rattle.std.proofs.Common.{◌∷◌, [], codes, false}
use Rattle.json.specs.Json.{boolean, string}
use Rattle.json.specs.Token.{begin_object, end_object}
use Rattle.sbx_rules.specs.Causes.{shown_cause}
use Rattle.inspect_refusal.specs.Texts.{rule_text}
use Rattle.inspect_json.specs.Objects.{member_tokens}
use Rattle.inspect_json.specs.Verdicts.{place_tokens}
use Rattle.inspect_json.proofs.Adding.{then_seven}
use Rattle.inspect_json.proofs.verdicts.put_refused.Goals as goal

pub returns : goal.returns
returns c =
    then_seven c.close_object.result c.args.out.now c.open_object.new.out c.put_flag.new.out c.put_rule.new.out c.put_place.new.out c.put_sentence.new.out c.put_text.new.out c.close_object.new.out
    (begin_object ∷ []) (member_tokens (codes "accepted") (boolean false)) (member_tokens (codes "rule") (string (shown_cause c.args.refusal.cause)))
    (place_tokens c.args.refusal) (member_tokens (codes "sentence") (string (rule_text c.args.refusal.cause)))
    (member_tokens (codes "text") (string c.args.text.now)) (end_object ∷ [])
    c.in_ok-open_object.ensures c.in_ok-put_flag.ensures c.in_ok-put_rule.ensures c.in_ok-put_place.ensures c.in_ok-put_sentence.ensures c.in_ok-put_text.ensures
    c.close_object.ensures
