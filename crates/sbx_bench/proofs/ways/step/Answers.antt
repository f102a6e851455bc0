-- One turn more is a turn of the state after the turns before.
use Rattle.std.proofs.Common.{ap, sym, ◌∙◌, add-one}
use Rattle.v8_board.specs.Seen.{turned}
use Rattle.sbx_bench.proofs.ways.step.Goals as goal

pub loop-preserved : goal.loop-preserved
loop-preserved c = rw add-one (ap (λ turn. turn.1) (sym c.in-Ok.ensures.turn) ∙ ap (λ s. (turned 8 s).1) c.loop.invariant)
