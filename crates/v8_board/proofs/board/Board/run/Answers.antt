use Rattle.std.proofs.Common.{refl, sym, ◌∙◌, arith}
use Rattle.v8_board.proofs.Running.{no_turns, one_turn_more, ended_run, whole_run, cut_short}
use Rattle.v8_board.proofs.Asking.{no_calls, one_turn_called, ended_asks, whole_asks, cut_asks}
use Rattle.v8_board.proofs.Joined.{goes_on}
use Rattle.v8_board.proofs.Contained.{run_kept, cut_kept}
use Rattle.v8_board.proofs.board.Board.run.Goals as goal

pub loop-done-init : goal.loop-done-init
loop-done-init g c = (no_turns _ _, refl, no_calls g.row.N c.args.self.now.state c.args.self.now.calls)

pub loop-done-preserved : goal.loop-done-preserved
loop-done-preserved g c = (
  one_turn_more g.row.N c.loop-done.done c.args.self.now.state c.loop-done.self.state c.turn.new.self.state c.in-Ok._turn c.loop-done.invariant.0
      (sym c.ending.ensures ∙ c.in-None.is) c.in-Ok.ensures.turn,
  c.in-Ok.ensures.count ∙ c.loop-done.invariant.1,
  one_turn_called g.row.N c.loop-done.done c.args.self.now.state c.loop-done.self.state c.turn.new.self.state c.in-Ok._turn c.args.self.now.calls
      c.loop-done.self.calls c.turn.new.self.calls c.loop-done.invariant.0 c.in-Ok.ensures.turn c.loop-done.invariant.2 c.in-Ok.ensures.calls,
)

pub returns-in_default-clause-run : goal.returns-in_default-clause-run
returns-in_default-clause-run g c =
    ended_run g.row.N c.args.limit c.loop-done.done c.args.self.now.state c.loop-done.self.state c.loop-done.invariant.0 (omega arith) (λ none. c.in_default.not-None (c.ending.ensures ∙ none))

pub returns-clause-run : goal.returns-clause-run
returns-clause-run g c = whole_run g.row.N c.args.limit c.loop-done.done c.args.self.now.state c.loop-done.self.state c.loop-done.invariant.0 (omega arith)

pub returns-in-Err-clause-stands : goal.returns-in-Err-clause-stands
returns-in-Err-clause-stands g c =
    let stands = cut_short g.row.N c.args.limit c.loop-done.done c.args.self.now.state c.loop-done.self.state c.loop-done.invariant.0 (omega arith) (sym c.ending.ensures ∙ c.in-None.is) in
    rw c.in-Err.ensures.state stands

pub returns-in_default-clause-contained : goal.returns-in_default-clause-contained
returns-in_default-clause-contained g c =
    run_kept g.row.N c.args.limit c.args.self.now.state c.loop-done.self.state
    (ended_run g.row.N c.args.limit c.loop-done.done c.args.self.now.state c.loop-done.self.state c.loop-done.invariant.0 (omega arith) (λ none. c.in_default.not-None (c.ending.ensures ∙ none)))

pub returns-clause-contained : goal.returns-clause-contained
returns-clause-contained g c =
    run_kept g.row.N c.args.limit c.args.self.now.state c.loop-done.self.state
    (whole_run g.row.N c.args.limit c.loop-done.done c.args.self.now.state c.loop-done.self.state c.loop-done.invariant.0 (omega arith))

pub returns-in-Err-clause-contained : goal.returns-in-Err-clause-contained
returns-in-Err-clause-contained g c =
    let stands = cut_short g.row.N c.args.limit c.loop-done.done c.args.self.now.state c.loop-done.self.state c.loop-done.invariant.0 (omega arith) (sym c.ending.ensures ∙ c.in-None.is) in
    let kept = cut_kept g.row.N c.args.limit c.args.self.now.state c.loop-done.self.state stands in
    rw c.in-Err.ensures.state kept

pub returns-in-Err-clause-goes_on : goal.returns-in-Err-clause-goes_on
returns-in-Err-clause-goes_on g c =
    let stands = cut_short g.row.N c.args.limit c.loop-done.done c.args.self.now.state c.loop-done.self.state c.loop-done.invariant.0 (omega arith) (sym c.ending.ensures ∙ c.in-None.is) in
    let rest = goes_on g.row.N c.args.limit c.args.self.now.state c.loop-done.self.state stands in
    rw c.in-Err.ensures.state rest

pub returns-in_default-clause-calls : goal.returns-in_default-clause-calls
returns-in_default-clause-calls g c =
    ended_asks g.row.N c.args.limit c.loop-done.done c.args.self.now.state c.loop-done.self.state c.args.self.now.calls c.loop-done.self.calls
    c.loop-done.invariant.0 (omega arith) (λ none. c.in_default.not-None (c.ending.ensures ∙ none)) c.loop-done.invariant.2

pub returns-clause-calls : goal.returns-clause-calls
returns-clause-calls g c =
    whole_asks g.row.N c.args.limit c.loop-done.done c.args.self.now.state c.loop-done.self.state c.args.self.now.calls c.loop-done.self.calls
    c.loop-done.invariant.0 (omega arith) c.loop-done.invariant.2

pub returns-in-Err-clause-calls : goal.returns-in-Err-clause-calls
returns-in-Err-clause-calls g c =
    let asks = cut_asks g.row.N c.args.limit c.loop-done.done c.args.self.now.state c.loop-done.self.state c.args.self.now.calls c.loop-done.self.calls
    c.turn.new.self.calls c.loop-done.invariant.0 (omega arith) (sym c.ending.ensures ∙ c.in-None.is) c.loop-done.invariant.2 c.in-Err.ensures.calls in
    rw c.in-Err.ensures.state asks

pub returns-in_default-clause-told : goal.returns-in_default-clause-told
returns-in_default-clause-told g c = c.outcome.ensures

pub returns-in_default-clause-count : goal.returns-in_default-clause-count
returns-in_default-clause-count g c = c.loop-done.invariant.1

pub returns-clause-told : goal.returns-clause-told
returns-clause-told g c = c.outcome-2.ensures

pub returns-clause-count : goal.returns-clause-count
returns-clause-count g c = c.loop-done.invariant.1

pub returns-in-Err-clause-count : goal.returns-in-Err-clause-count
returns-in-Err-clause-count g c = rw (sym c.loop-done.invariant.1) c.in-Err.ensures.count

pub returns-in-Err-clause-own : goal.returns-in-Err-clause-own
returns-in-Err-clause-own g c = c.in-Err.ensures.own

pub ending-requires : goal.ending-requires
ending-requires g c = assumption

pub outcome-requires-2 : goal.outcome-requires-2
outcome-requires-2 g c = assumption

pub outcome-requires : goal.outcome-requires
outcome-requires g c = assumption

pub returns-in_default-clause-stands : goal.returns-in_default-clause-stands
returns-in_default-clause-stands g c = assumption

pub returns-in_default-clause-goes_on : goal.returns-in_default-clause-goes_on
returns-in_default-clause-goes_on g c = assumption

pub returns-in-Err-clause-run : goal.returns-in-Err-clause-run
returns-in-Err-clause-run g c = assumption

pub returns-clause-own : goal.returns-clause-own
returns-clause-own g c = assumption

pub returns-in-Err-clause-told : goal.returns-in-Err-clause-told
returns-in-Err-clause-told g c = assumption

pub returns-clause-stands : goal.returns-clause-stands
returns-clause-stands g c = assumption

pub returns-clause-goes_on : goal.returns-clause-goes_on
returns-clause-goes_on g c = assumption

pub returns-in_default-clause-own : goal.returns-in_default-clause-own
returns-in_default-clause-own g c = assumption
