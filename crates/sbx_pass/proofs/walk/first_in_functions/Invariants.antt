use Rattle.std.proofs.Common.{ℕ, ◌<◌}
use Rattle.sbx_pass.specs.Walks.{IsQuietFunction}
use Rattle.sbx_pass.proofs.walk.first_in_functions.Given as goal

abbrev pub invariant-loop-f : goal.invariant-loop-f
invariant-loop-f l = (g : ℕ) → g < l.f → IsQuietFunction l.image g
