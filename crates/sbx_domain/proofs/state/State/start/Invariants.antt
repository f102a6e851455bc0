use Rattle.std.proofs.Common.{◌≡◌, ◌≤◌, drop, length}
use Rattle.sbx_domain.specs.Known.{known, started}
use Rattle.sbx_domain.proofs.state.State.start.Given as goal

abbrev pub invariant-loop-left : goal.invariant-loop-left
invariant-loop-left l = (l.left ≤ length l.cells) × (known l.self ≡ started (drop l.left l.cells))

abbrev pub decreases-loop-left : goal.decreases-loop-left
decreases-loop-left l = l.left
