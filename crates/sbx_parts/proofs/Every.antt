-- Something of each item of a list, item by item, as a loop has it.
use Rattle.std.proofs.Common.{ℕ, ◌+◌, ◌≤◌, ◌<◌, List, length, get_or, drop, sym, subst}
use Rattle.std.proofs.lemmas.List.{drop_more, drop_all}
use Rattle.std.specs.List.{AllByRecursion}

module _ {A : Type 0} (P : A → Type 0) where
  pub goes_on : (xs : List A) (i : ℕ) (d : A) → i < length xs → P (get_or xs i d) → (AllByRecursion P (drop i xs) → AllByRecursion P xs) → AllByRecursion P (drop (i + 1) xs) → AllByRecursion P xs
  goes_on xs i d lt p so_far rest = so_far (subst (AllByRecursion P) (sym (drop_more xs i d lt)) (p, rest))

  pub is_done : (xs : List A) (i : ℕ) → length xs ≤ i → (AllByRecursion P (drop i xs) → AllByRecursion P xs) → AllByRecursion P xs
  is_done xs i le so_far = so_far (subst (AllByRecursion P) (sym (drop_all i xs le)) tt)
