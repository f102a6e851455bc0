use Rattle.sbx_verdicts.proofs.OnEngine.{engine_so}
use Rattle.sbx_verdicts.proofs.engine.runs_on_engine.Goals as goal

pub returns : goal.returns
returns c =
    engine_so c.args.accepted.now c.args.run.now c.as_slice.result.now c.in_ok-finished.finished c.is_run.result c.as_slice.ensures.value c.in_ok-finished.ensures
    c.is_run.ensures
