-- Copies of an item, one after the other.
use Rattle.std.proofs.Common.{◌≡◌, ℕ, ◌+◌, List, [], ◌∷◌, ◌++◌, ap, ◌∙◌, append_assoc}
use Rattle.std.specs.Prelude.{replicate}
use Rattle.std.proofs.lemmas.List.{replicate_more}

pub one_more : {X : Type 0} (xs ys : List X) (n : ℕ) (x : X) → ys ≡ xs ++ replicate n x → ys ++ x ∷ [] ≡ xs ++ replicate (n + 1) x
one_more {X = X} xs ys n x h = ap (λ (zs : List X). zs ++ x ∷ []) h ∙ append_assoc xs (replicate n x) (x ∷ []) ∙ ap (λ (zs : List X). xs ++ zs) (replicate_more n x)
