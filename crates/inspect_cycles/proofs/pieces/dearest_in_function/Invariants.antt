use Rattle.std.proofs.Common.{◌≡◌, ℕ, ◌<◌, ◌≤◌}
use Rattle.std.specs.Prelude.{◌⊎◌}
use Rattle.inspect_cycles.specs.Pieces.{AreWithin, IsOfBlock, least}
use Rattle.inspect_cycles.proofs.pieces.dearest_in_function.Given as goal

abbrev pub invariant-loop-block : goal.invariant-loop-block
invariant-loop-block l = record {
  within : (b : ℕ) → b < l.block → AreWithin l.table l.image l.dearest l.function b;
  is : (l.dearest ≡ least) ⊎ ((b : ℕ) × (b < l.block) × IsOfBlock l.table l.image l.function b l.dearest);
  some : 1 ≤ l.dearest.turns;
}
