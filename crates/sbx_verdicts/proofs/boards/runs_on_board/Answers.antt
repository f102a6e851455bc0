use Rattle.sbx_verdicts.proofs.Answered.{runs_so}
use Rattle.sbx_verdicts.proofs.boards.runs_on_board.Goals as goal

pub returns-in-Some-Ok : goal.returns-in-Some-Ok
returns-in-Some-Ok c =
    runs_so c.args.accepted.now c.args.run.now c.as_slice.result.now c.in-Some-Ok.field-0 c.in-Some-Ok.finished c.is_run.result c.as_slice.ensures.value
    c.in-Some-Ok.ensures.2 c.in-Some-Ok.field-0-is c.is_run.ensures
