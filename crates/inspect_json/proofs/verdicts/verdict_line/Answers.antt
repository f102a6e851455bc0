use Rattle.std.proofs.lemmas.Result.{IfOk-weaker}
use Rattle.inspect_json.specs.Verdicts.{verdict_json}
use Rattle.inspect_json.proofs.Adding.{whole_line}
use Rattle.inspect_json.proofs.verdicts.verdict_line.Goals as goal

pub returns : goal.returns
returns c =
    IfOk-weaker c.line_of.result _ _
    (λ line is. whole_line c.new_line-out.result c.put_verdict.new.out (verdict_json c.args.found c.args.text.now) line.items c.new_line-out.ensures c.in_ok-put_verdict.ensures is)
    c.line_of.ensures
