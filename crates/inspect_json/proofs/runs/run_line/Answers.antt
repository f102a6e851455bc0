use Rattle.std.proofs.lemmas.Result.{IfOk-weaker}
use Rattle.inspect_json.specs.Runs.{run_json}
use Rattle.inspect_json.proofs.Adding.{whole_line}
use Rattle.inspect_json.proofs.runs.run_line.Goals as goal

pub returns : goal.returns
returns c =
    IfOk-weaker c.line_of.result _ _
    (λ line is. whole_line c.new_line-out.result c.put_run.new.out (run_json c.args.windows c.args.limit c.args.run.now) line.items c.new_line-out.ensures c.in_ok-put_run.ensures is)
    c.line_of.ensures
