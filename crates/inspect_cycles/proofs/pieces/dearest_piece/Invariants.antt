use Rattle.std.proofs.Common.{◌≡◌, ℕ, ◌<◌, ◌≤◌}
use Rattle.std.specs.Prelude.{◌⊎◌}
use Rattle.sbx_known.specs.Spots.{IsBlock}
use Rattle.inspect_cycles.specs.Pieces.{AreWithin, IsOfBlock, least}
use Rattle.inspect_cycles.proofs.pieces.dearest_piece.Given as goal

abbrev pub invariant-loop-function : goal.invariant-loop-function
invariant-loop-function l = record {
  within : (f b : ℕ) → f < l.function → IsBlock l.image f b → AreWithin l.table l.image l.dearest f b;
  is : (l.dearest ≡ least) ⊎ ((f : ℕ) × (b : ℕ) × IsBlock l.image f b × IsOfBlock l.table l.image f b l.dearest);
  some : 1 ≤ l.dearest.turns;
}
