use Rattle.std.proofs.Common.{ℕ, List, Bor, sym, subst}
use Rattle.std.specs.Str.Iter.{split_whitespace_rest}
use Rattle.v8_vectors.proofs.Splits.{Precedes, starts_with_piece, precedes_next, precedes_none}
use Rattle.v8_vectors.proofs.pieces.Goals as goal

-- the iterator gave a piece, which is kept
pub loop-piece-preserved : goal.loop-piece-preserved
loop-piece-preserved c =
    let starts = starts_with_piece _ c.in-Some.piece.now _ c.in-Some.ensures.steps in
    subst (λ items. Precedes items c.args.text.now (split_whitespace_rest c.next.new.self)) (sym {A = List (Bor (List ℕ))} c.in_ok-push.ensures.items)
    (precedes_next _ c.in-Some.piece _ _ _ c.loop-piece.invariant starts)

-- the iterator is done, so the pieces seen are all the pieces
pub returns : goal.returns
returns c = precedes_none _ _ _ c.loop-piece.invariant c.in-None.ensures.steps.1
