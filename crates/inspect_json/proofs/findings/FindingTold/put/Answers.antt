use Rattle.std.proofs.Common.{◌∷◌, [], codes}
use Rattle.json.specs.Json.{string}
use Rattle.json.specs.Token.{begin_object, end_object}
use Rattle.inspect_names.specs.Findings.{code_text}
use Rattle.inspect_json.specs.Objects.{member_tokens}
use Rattle.inspect_json.specs.Findings.{place_tokens}
use Rattle.inspect_json.proofs.Adding.{then_five}
use Rattle.inspect_json.proofs.findings.FindingTold.put.Goals as goal

pub returns : goal.returns
returns c =
    then_five c.close_object.result c.args.out.now c.open_object.new.out c.put_place.new.out c.put_code.new.out c.put_text.new.out c.close_object.new.out
    (begin_object ∷ []) (place_tokens c.args.self.now) (member_tokens (codes "code") (string (code_text c.args.self.now.code)))
    (member_tokens (codes "sentence") (string c.args.self.now.sentence.now)) (end_object ∷ [])
    c.in_ok-open_object.ensures c.in_ok-put_place.ensures c.in_ok-put_code.ensures c.in_ok-put_text.ensures
    c.close_object.ensures
