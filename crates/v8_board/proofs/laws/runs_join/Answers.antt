use Rattle.v8_board.proofs.Joined.{cut_runs_join, runs_agree, runs_join, step_runs, turns_join}
use Rattle.v8_board.proofs.laws.runs_join.Goals as goal

pub returns-clause-turns : goal.returns-clause-turns
returns-clause-turns c = λ n s m e t u. turns_join n s m e t u

pub returns-clause-runs : goal.returns-clause-runs
returns-clause-runs c = λ n a b s m e r q. runs_join n a b s m e r q

pub returns-clause-step : goal.returns-clause-step
returns-clause-step c = λ n s none. step_runs n s none

pub returns-clause-cut : goal.returns-clause-cut
returns-clause-cut c = λ n a b s m e r q. cut_runs_join n a b s m e r q

pub returns-clause-agree : goal.returns-clause-agree
returns-clause-agree c = λ n limit s e f r q. runs_agree n limit s e f r q
