use Rattle.std.proofs.lemmas.Result.{IfOk-weaker}
use Rattle.inspect_run.proofs.run.run_board.Goals as goal

pub returns-clause-run : goal.returns-clause-run
returns-clause-run g c =
    IfOk-weaker c.told_of.result _ _ (λ run told. record { run = c.in_ok-run_slices.ensures.run; kept = c.in_ok-run_slices.ensures.contained; shown = told })
    c.told_of.ensures.told

pub run_slices-requires : goal.run_slices-requires
run_slices-requires g c = assumption

pub told_of-requires : goal.told_of-requires
told_of-requires g c = assumption

pub returns-clause-fault : goal.returns-clause-fault
returns-clause-fault g c = assumption
