use Rattle.std.proofs.Common.{◌∷◌, [], codes}
use Rattle.std.specs.List.{flat_map}
use Rattle.json.specs.Json.{string}
use Rattle.json.specs.Token.{begin_object, end_object}
use Rattle.inspect_lines.specs.Words.{byte_text}
use Rattle.inspect_json.specs.Objects.{member_tokens}
use Rattle.inspect_json.specs.Runs.{count_tokens, ending_json, pages_json, status_tokens}
use Rattle.inspect_json.proofs.Adding.{then_seven}
use Rattle.inspect_json.proofs.runs.put_run.Goals as goal

pub returns : goal.returns
returns c =
    then_seven c.close_object.result c.args.out.now c.open_object.new.out c.put_output.new.out c.put_ending.new.out c.put_counts.new.out c.put_pages.new.out c.put_status.new.out c.close_object.new.out
    (begin_object ∷ []) (member_tokens (codes "output") (string (flat_map byte_text c.args.run.now.raw.output.items)))
    (member_tokens (codes "end") (ending_json c.args.run.now.raw.outcome.ending c.args.run.now.trapped_at))
    (count_tokens c.args.windows c.args.limit c.args.run.now) (member_tokens (codes "pages") (pages_json c.args.run.now.raw.pages))
    (status_tokens c.args.run.now.raw.fault_status) (end_object ∷ [])
    c.in_ok-open_object.ensures c.in_ok-put_output.ensures c.in_ok-put_ending.ensures c.in_ok-put_counts.ensures c.in_ok-put_pages.ensures c.in_ok-put_status.ensures
    c.close_object.ensures
