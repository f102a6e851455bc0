-- A name without a dot in front is no directive's.
use Rattle.std.proofs.Common.{◌≡◌, ◌≢◌, ℕ, List, [], ◌∷◌, None, false, refl, ◌∙◌, eqb}
use Rattle.std.specs.Prelude.{slice_index}
use Rattle.std.proofs.lemmas.Bool.{ne_eqb}
use Rattle.sbx_directives.specs.Directives.{keyword_named, named_keywords}

pub no_dot : (name : List ℕ) (first : ℕ) → first ≡ slice_index name 0 → first ≢ 46 → None ≡ keyword_named name
unfolding keyword_named named_keywords
no_dot [] first e h = refl
no_dot (b ∷ name) first e h = let other : eqb b 46 ≡ false = ne_eqb b 46 (λ k. h (e ∙ k)) in rw other refl
