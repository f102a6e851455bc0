use Rattle.std.proofs.Common.{codes}
use Rattle.json.specs.Tree.{json_tokens}
use Rattle.inspect_json.specs.Objects.{key_tokens}
use Rattle.inspect_json.specs.Runs.{ending_json}
use Rattle.inspect_json.proofs.Adding.{then_two}
use Rattle.inspect_json.proofs.runs.put_ending.Goals as goal

pub returns : goal.returns
returns c =
    then_two c.put_how.result c.args.out.now c.put_key.new.out c.put_how.new.out
    (key_tokens (codes "end")) (json_tokens (ending_json c.args.ending c.args.place))
    c.in_ok-put_key.ensures
    c.put_how.ensures
