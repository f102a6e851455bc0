use Rattle.std.proofs.Common.{◌≡◌, ◌+◌, ◌*◌, ◌≤◌, length}
use Rattle.sbx_flat.specs.Runs.{weight}
use Rattle.flat_plain.proofs.paths.weight.Given as goal

abbrev pub invariant-loop-place : goal.invariant-loop-place
invariant-loop-place l = record {
  value : l.sum + weight l.image l.rest ≡ weight l.image l.path;
  bound : l.sum + 25 * length l.rest ≤ 25 * length l.path;
}

abbrev pub decreases-loop-place : goal.decreases-loop-place
decreases-loop-place l = length l.rest
