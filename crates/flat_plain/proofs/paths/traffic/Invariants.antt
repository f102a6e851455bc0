use Rattle.std.proofs.Common.{◌≡◌, ◌+◌, ◌*◌, ◌<◌, ◌≤◌, length}
use Rattle.sbx_flat.specs.Traffic.{traffic, traffic_from}
use Rattle.flat_plain.proofs.paths.traffic.Given as goal

abbrev pub invariant-loop-place : goal.invariant-loop-place
invariant-loop-place l = record {
  value : traffic_from l.image l.n l.rest l.traffic ≡ traffic l.image l.n l.path;
  windows : (1 ≤ l.traffic.windows) × (l.traffic.windows < l.n);
  bound : (l.traffic.turns + 25 * length l.rest ≤ 25 * length l.path) × (l.traffic.overflows + length l.rest ≤ length l.path) × (l.traffic.underflows + length l.rest ≤ length l.path);
}

abbrev pub decreases-loop-place : goal.decreases-loop-place
decreases-loop-place l = length l.rest
