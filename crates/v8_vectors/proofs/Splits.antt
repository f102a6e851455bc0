-- What one more piece of a text does to those that were found before it.
use Rattle.std.proofs.Common.{◌≡◌, ℕ, ◌<◌, List, [], ◌∷◌, ◌++◌, length, sym, subst, ap, ◌∙◌, append_assoc, append-nil, Bor, map}
use Rattle.std.specs.Str.{NoCharPasses, EmptyOrStartsWithPassing}
use Rattle.std.specs.Char.{is_whitespace, is_not_whitespace}
use Rattle.std.proofs.lemmas.List.{map-append}
use Rattle.v8_vectors.specs.Pieces.{StartsWithPiece, SplitsInto, ArePieces}

-- the pieces of the text are those seen and those of the rest
abbrev pub Precedes : List (Bor (List ℕ)) → List ℕ → List ℕ → Type 0
Precedes seen text rest = (ps : List (List ℕ)) → SplitsInto rest ps → SplitsInto text (map (λ p. p.now) seen ++ ps)

-- what `split_whitespace` says of an item, as the record
pub starts_with_piece : (bs p rest : List ℕ)
    → (gap : List ℕ) × (bs ≡ gap ++ (p ++ rest)) × (0 < length p) × NoCharPasses is_not_whitespace gap × NoCharPasses is_whitespace p
    × ((more : List ℕ) × EmptyOrStartsWithPassing is_whitespace rest more)
    → StartsWithPiece bs p rest
starts_with_piece bs p rest item =
    record { gap = item.0; split = item.1; nonempty = item.2; gap_is_blank = item.3; piece_has_no_space = item.4; rest_starts_blank = item.5 }

-- one more piece is seen
pub precedes_next : (seen : List (Bor (List ℕ))) (p : Bor (List ℕ)) (text rest next : List ℕ)
    → Precedes seen text rest → StartsWithPiece rest p.now next → Precedes (seen ++ p ∷ []) text next
precedes_next seen p text rest next before starts ps splits =
    subst (SplitsInto text)
    (sym (ap (λ s. s ++ ps) (map-append (λ q. q.now) seen (p ∷ [])) ∙ append_assoc (map (λ q. q.now) seen) (p.now ∷ []) ps))
    (before (p.now ∷ ps) (next, starts, splits))

-- no piece is left
pub precedes_none : (seen : List (Bor (List ℕ))) (text rest : List ℕ) → Precedes seen text rest → SplitsInto rest [] → ArePieces text seen
precedes_none seen text rest before none = subst (SplitsInto text) (append-nil (map (λ p. p.now) seen)) (before [] none)
