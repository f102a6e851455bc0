use Rattle.std.proofs.Common.{ℕ, ◌<◌}
use Rattle.sbx_pass.specs.Firsts.{IsQuiet}
use Rattle.sbx_pass.proofs.walk.first_in_function.Given as goal

abbrev pub invariant-loop-block : goal.invariant-loop-block
invariant-loop-block l = (b : ℕ) → b < l.block → IsQuiet l.image l.f b
