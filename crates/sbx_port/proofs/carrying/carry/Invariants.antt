use Rattle.std.proofs.Common.{◌≡◌, ◌+◌, ℕ, true, List, []}
use Rattle.std.specs.Io.KnownBytes.{Appends}
use Rattle.sbx_port.specs.Streams.{waits}
use Rattle.sbx_port.proofs.Tracked.{HasRead, IsOnItsWay}
use Rattle.sbx_port.proofs.carrying.carry.Given as goal

abbrev pub invariant-loop-left : goal.invariant-loop-left
invariant-loop-left g l =
    (read : List ℕ) × (w : List ℕ) × IsOnItsWay g.row.N l.limit l.initial.board.state l.left read l.met w l.board.state
    × (l.board.state.world.memory.device.output ≡ []) × (l.board.failed ≡ 0) × (l.met ≡ true → l.board.state.world.memory.device.input ≡ [])
    × HasRead (g.R.Read.remaining l.initial.reader) (g.R.Read.remaining l.reader) read l.met
    × Appends (g.W.Write.contents l.initial.writer) (g.W.Write.contents l.writer) w

abbrev pub decreases-loop-left : goal.decreases-loop-left
decreases-loop-left g l = l.left + l.left + waits l.board.state.world.memory.device.input
