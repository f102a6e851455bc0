use Rattle.std.proofs.lemmas.Result.{IfOk-weaker}
use Rattle.inspect_json.specs.Findings.{check_json}
use Rattle.inspect_json.proofs.Adding.{whole_line}
use Rattle.inspect_json.proofs.findings.check_line.Goals as goal

pub returns : goal.returns
returns c =
    IfOk-weaker c.line_of.result _ _
    (λ line is. whole_line c.new_line-out.result c.put_check.new.out (check_json c.args.findings.now c.args.text.now) line.items c.new_line-out.ensures c.in_ok-put_check.ensures is)
    c.line_of.ensures
