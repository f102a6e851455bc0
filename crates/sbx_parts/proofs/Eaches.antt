-- Checking items one after the other, as a loop does.
use Rattle.std.proofs.Common.{◌≡◌, ℕ, ◌+◌, ◌≤◌, ◌<◌, List, ◌∷◌, length, get_or, drop, Result, Ok, Err, sym, ap, ◌∙◌}
use Rattle.std.proofs.lemmas.List.{drop_more, drop_all}
use Rattle.sbx_parts.specs.declared.fault.ImageFault.{ImageFault}
use Rattle.sbx_parts.specs.Rules.{◌>>=◌, each}

module _ {A S : Type 0} (keeps : S → A → Result S ImageFault) where
  one_more : (s : S) (x : A) (r : Result S ImageFault) (rest : List A) → r ≡ keeps s x → (r >>= λ next. each keeps next rest) ≡ each keeps s (x ∷ rest)
  unfolding each
  one_more s x r rest h = ap (λ (z : Result S ImageFault). z >>= λ next. each keeps next rest) h

  -- what an element behind a reference is
  pub at_item : (xs : List A) (i : ℕ) (s : S) (x : A) (r : Result S ImageFault) → x ≡ get_or xs i x → r ≡ keeps s x → r ≡ keeps s (get_or xs i x)
  at_item xs i s x r at h = h ∙ ap (keeps s) at

  pub goes_on : (xs : List A) (i : ℕ) (s t : S) (d : A) (total : Result S ImageFault) → i < length xs → Ok t ≡ keeps s (get_or xs i d) →
      each keeps s (drop i xs) ≡ total → each keeps t (drop (i + 1) xs) ≡ total
  goes_on xs i s t d total lt h so_far = one_more s (get_or xs i d) (Ok t) (drop (i + 1) xs) h ∙ ap (each keeps s) (sym (drop_more xs i d lt)) ∙ so_far

  pub fails : (xs : List A) (i : ℕ) (s : S) (e : ImageFault) (d : A) (total : Result S ImageFault) → i < length xs → Err e ≡ keeps s (get_or xs i d) → each keeps s (drop i xs) ≡ total → Err e ≡ total
  fails xs i s e d total lt h so_far = one_more s (get_or xs i d) (Err e) (drop (i + 1) xs) h ∙ ap (each keeps s) (sym (drop_more xs i d lt)) ∙ so_far

  pub is_done : (xs : List A) (i : ℕ) (s : S) (total : Result S ImageFault) → length xs ≤ i → each keeps s (drop i xs) ≡ total → Ok s ≡ total
  unfolding each
  is_done xs i s total le so_far = ap (each keeps s) (sym (drop_all i xs le)) ∙ so_far
