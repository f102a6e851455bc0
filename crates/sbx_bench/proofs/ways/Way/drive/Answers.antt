-- The start of a run is the board that was loaded.
use Rattle.std.proofs.Common.{◌≡◌, IfOk, sym, subst}
use Rattle.std.proofs.lemmas.Result.{IfOk-weaker}
use Rattle.v8_board.specs.Seen.{State}
use Rattle.v8_board.specs.Runs.{IsRun, state_after}
use Rattle.sbx_bench.specs.declared.ways.Way.TheVariants as ways
use Rattle.sbx_bench.specs.Ways.{IsToldBy, register_of}
use Rattle.sbx_bench.proofs.ways.Way.drive.Goals as goal

-- src/ways.rt:118:5
pub returns-in_ok-begun-in-Step : goal.returns-in_ok-begun-in-Step
returns-in_ok-begun-in-Step c =
    let start = c.in_ok-begun-in-Step.field-0.state in
    subst (λ way. IfOk c.step.result (IsToldBy way c.args.image.now c.args.turns)) (sym c.in-Step.is)
    (IfOk-weaker c.step.result (λ told. told ≡ register_of (state_after 8 c.args.turns start)) (IsToldBy ways.Step c.args.image.now c.args.turns)
    (λ told e. (start, c.in_ok-begun-in-Step.ensures.begun, e)) c.step.ensures)

-- src/ways.rt:118:5
pub returns-in_ok-begun-in-Run : goal.returns-in_ok-begun-in-Run
returns-in_ok-begun-in-Run c =
    let start = c.in_ok-begun-in-Run.field-0.state in
    subst (λ way. IfOk c.run.result (IsToldBy way c.args.image.now c.args.turns)) (sym c.in-Run.is)
    (IfOk-weaker c.run.result (λ told. (end : State 8) × IsRun 8 c.args.turns start end × (told ≡ register_of end)) (IsToldBy ways.Run c.args.image.now c.args.turns)
    (λ told ran. (start, ran.0, c.in_ok-begun-in-Run.ensures.begun, ran.1, ran.2)) c.run.ensures)
