use Rattle.std.proofs.lemmas.Result.{IfOk-weaker}
use Rattle.cmd_words.proofs.add.Goals as goal

pub returns : goal.returns
returns c =
    IfOk-weaker c.subcommand.result _ _
    (λ new adds. (c.in_ok-command.field-0, c.in_ok-below.field-0, c.in_ok-command.was, c.in_ok-below.was, adds)) c.subcommand.ensures
