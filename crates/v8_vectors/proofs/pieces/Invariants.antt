use Rattle.std.specs.Str.Iter.{split_whitespace_rest}
use Rattle.v8_vectors.proofs.Splits.{Precedes}
use Rattle.v8_vectors.proofs.pieces.Given as goal

abbrev pub invariant-loop-piece : goal.invariant-loop-piece
invariant-loop-piece l = Precedes l.found.items l.text (split_whitespace_rest l.piece-iterator)
