use Rattle.std.proofs.Common.{ℕ, List, ap, subst, length, arith}
use Rattle.geyserpan.specs.Reports.{Hands}
use Rattle.geyserpan.proofs.engine_running.run_engine_into.Goals as goal

pub returns-in-Ok-clause-ran : goal.returns-in-Ok-clause-ran
returns-in-Ok-clause-ran c = λ done.
    let handed = subst (λ (l : List ℕ). Hands l c.args.room.now c.hand_on.new.room) c.as_slice.ensures.value (c.hand_on.ensures.handed done) in
    (c.in-Ok.finished, c.in-Ok.ensures, handed, c.report_of.ensures)

pub returns-in-Ok-clause-longer : goal.returns-in-Ok-clause-longer
returns-in-Ok-clause-longer c = λ is.
    let more = c.hand_on.ensures.longer is in
    let told = c.report_of.ensures.output in
    let same = ap (λ (l : List ℕ). length l) c.as_slice.ensures.value in
    ((c.in-Ok.finished, c.in-Ok.ensures, c.report_of.ensures), omega (arith, more, told, same))

pub returns-in-Ok-clause-small : goal.returns-in-Ok-clause-small
returns-in-Ok-clause-small c = λ is.
    let more = c.hand_on.ensures.small is in
    let told = c.report_of.ensures.output in
    let same = ap (λ (l : List ℕ). length l) c.as_slice.ensures.value in
    ((c.in-Ok.finished, c.in-Ok.ensures, c.report_of.ensures), omega (arith, more, told, same))
