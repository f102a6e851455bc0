use Rattle.std.proofs.Common.{◌≡◌, ℕ, ◌*◌, ◌<◌, ◌≤◌, ◌^◌, length}
use Rattle.std.specs.Prelude.{◌⊎◌, IfSome}
use Rattle.sbx_rules.specs.Places.{callee_before, op_before}
use Rattle.inspect_cycles.specs.Pieces.{EndsAt, EndsWithin, least, piece_before}
use Rattle.inspect_cycles.proofs.pieces.dearest_in_block.Given as goal

-- No piece that has ended so far is dearer than the dearest, which is one of them.
abbrev pub invariant-loop-number : goal.invariant-loop-number
invariant-loop-number l = record {
  within : (i : ℕ) → i < l.number → EndsWithin l.table l.image l.dearest l.function l.block i;
  is : (l.dearest ≡ least) ⊎ ((i : ℕ) × (i < l.number) × EndsAt l.table l.image l.function l.block i l.dearest);
  some : 1 ≤ l.dearest.turns;
  piece : l.piece ≡ piece_before l.table l.image l.function l.block l.number;
  few_cycles : l.piece.cycles ≤ l.number * 2 ^ 35;
  few_turns : l.piece.turns ≤ l.number * 25;
  before : l.before ≡ op_before l.image l.function l.block l.number;
  called : l.called ≡ callee_before l.image l.function l.block l.number;
  called_is : IfSome l.called (λ g. g < length l.image.functions);
}
