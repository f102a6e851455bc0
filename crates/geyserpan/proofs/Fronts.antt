-- What is written to the front of a part of a room, in the whole of it.
use Rattle.std.proofs.Common.{◌≡◌, ◌≤◌, ℕ, List, ◌++◌, drop, length, take, sym, ap, subst, ◌∙◌, arith, length-append}
use Rattle.std.proofs.lemmas.List.{take-append-le, drop-append-le}

pub longer : (k : ℕ) (xs ys : List ℕ) → k ≤ length xs → k ≤ length (xs ++ ys)
longer k xs ys few = omega (arith, length-append {A = ℕ} xs ys)

module _ (front front_after rest : List ℕ) (k : ℕ) (fits : k ≤ length front_after) (long : length front ≡ length front_after) where
  pub written_same : take k (front_after ++ rest) ≡ take k front_after
  written_same = take-append-le k front_after rest fits

  pub behind_same : drop k front_after ≡ drop k front → drop k (front_after ++ rest) ≡ drop k (front ++ rest)
  behind_same same =
      let shorter : k ≤ length front = subst (λ (most : ℕ). k ≤ most) (sym long) fits in
      drop-append-le k front_after rest fits ∙ ap (λ (l : List ℕ). l ++ rest) same ∙ sym (drop-append-le k front rest shorter)
