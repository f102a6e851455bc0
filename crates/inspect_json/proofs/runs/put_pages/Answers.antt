use Rattle.std.proofs.Common.{◌∷◌, [], codes}
use Rattle.json.specs.Token.{begin_object, end_object}
use Rattle.inspect_json.specs.Objects.{key_tokens}
use Rattle.inspect_json.proofs.Adding.{then_six}
use Rattle.inspect_json.proofs.runs.put_pages.Goals as goal

pub returns : goal.returns
returns c =
    then_six c.close_object.result c.args.out.now c.put_key.new.out c.open_object.new.out c.put_table.new.out c.put_table-2.new.out c.put_table-3.new.out c.close_object.new.out
    (key_tokens (codes "pages")) (begin_object ∷ []) _ _ _ (end_object ∷ [])
    c.in_ok-put_key.ensures c.in_ok-open_object.ensures c.in_ok-put_table.ensures c.in_ok-put_table-2.ensures c.in_ok-put_table-3.ensures c.close_object.ensures
