-- Steps of an image's rules that do not fail, one after the other.
use Rattle.std.proofs.Common.{◌≡◌, ℕ, ◌≤◌, Bool, true, false, List, [], ◌∷◌, ◌++◌, Result, Ok, refl, ap, ◌∙◌}
use Rattle.std.proofs.lemmas.Bool.{and_from, le-leb}
use Rattle.sbx_parts.specs.declared.fault.ImageFault.{ImageFault}
use Rattle.sbx_parts.specs.Rules.{◌>>=◌, wants, between, each}
use Rattle.sbx_parts.proofs.Steps.{bind_ok}

pub passes : {B : Type 0} (b : Bool) (d : ImageFault) (f : Unit {0} → Result B ImageFault) (y : B) → b ≡ true → f tt ≡ Ok y → (wants b d >>= f) ≡ Ok y
passes true d f y e k = k
passes false d f y e k = absurd (cc)

pub goes : {A B : Type 0} (r : Result A ImageFault) (f : A → Result B ImageFault) (x : A) (y : B) → r ≡ Ok x → f x ≡ Ok y → (r >>= f) ≡ Ok y
goes r f x y e k = ap (λ (z : Result _ ImageFault). z >>= f) e ∙ k

pub within : (low high n : ℕ) → low ≤ n → n ≤ high → between low high n ≡ true
within low high n h k = and_from _ _ (le-leb low n h) (le-leb n high k)

module _ {A S : Type 0} (keeps : S → A → Result S ImageFault) where
  pub each_first : (s : S) (x : A) (xs : List A) (t u : S) → keeps s x ≡ Ok t → each keeps t xs ≡ Ok u → each keeps s (x ∷ xs) ≡ Ok u
  unfolding each
  each_first s x xs t u e k = goes (keeps s x) (λ next. each keeps next xs) t u e k

  pub each_none : (s : S) → each keeps s [] ≡ Ok s
  unfolding each
  each_none s = refl

  pub each_append : (xs ys : List A) (s t u : S) → each keeps s xs ≡ Ok t → each keeps t ys ≡ Ok u → each keeps s (xs ++ ys) ≡ Ok u
  unfolding each
  each_append [] ys s t u e k = let same : s ≡ t = cc in ap (λ (v : S). each keeps v ys) same ∙ k
  each_append (x ∷ xs) ys s t u e k =
      let first = bind_ok (keeps s x) (λ next. each keeps next xs) t e in
      goes (keeps s x) (λ next. each keeps next (xs ++ ys)) first.0 u first.1 (each_append xs ys first.0 t u first.2 k)
