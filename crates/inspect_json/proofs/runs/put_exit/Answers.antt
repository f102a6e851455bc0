use Rattle.std.proofs.Common.{◌∷◌, [], codes}
use Rattle.json.specs.Json.{string}
use Rattle.json.specs.Token.{begin_object, end_object}
use Rattle.inspect_json.specs.Objects.{member_tokens, unsigned}
use Rattle.inspect_json.proofs.Adding.{then_four}
use Rattle.inspect_json.proofs.runs.put_exit.Goals as goal

pub returns : goal.returns
returns c =
    then_four c.close_object.result c.args.out.now c.open_object.new.out c.put_text.new.out c.put_word.new.out c.close_object.new.out
    (begin_object ∷ []) (member_tokens (codes "how") (string (codes "exit"))) (member_tokens (codes "word") (unsigned c.args.word)) (end_object ∷ [])
    c.in_ok-open_object.ensures c.in_ok-put_text.ensures c.in_ok-put_word.ensures
    c.close_object.ensures
