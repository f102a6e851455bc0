use Rattle.std.proofs.lemmas.Result.{IfOk-weaker}
use Rattle.cmd_words.proofs.with.Goals as goal

pub returns : goal.returns
returns c = IfOk-weaker c.arg.result _ _ (λ new adds. (c.in_ok-command.field-0, c.in_ok-command.was, adds)) c.arg.ensures
