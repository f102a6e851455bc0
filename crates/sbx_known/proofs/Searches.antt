-- What a search in order finds, an item after the other finds too.
use Rattle.std.proofs.Common.{◌≡◌, ℕ, zero, suc, ◌+◌, ◌-◌, ◌<◌, ◌≤◌, Bool, true, false, List, [], ◌∷◌, length, Option, Some, None, refl, ap, ◌∙◌, arith}
use Rattle.std.specs.Prelude.{◌==◌, nat_le, nat_lt, if◌then◌else◌, slice_index_or}
use Rattle.std.specs.List.Sorted.{IsNonDecreasingBy, IsPartitionPoint}
use Rattle.std.proofs.lemmas.Bool.Decides.{nat_tests}
use Rattle.sbx_known.specs.Sorted.{Ascend}

module _ (X : Type 0) (key : X → ℕ) (address : ℕ) (find : ℕ → List X → Option ℕ)
    (none : (n : ℕ) → find n [] ≡ None)
    (more : (n : ℕ) (x : X) (xs : List X) → find n (x ∷ xs) ≡ (if key x == address then Some n else find (suc n) xs)) where
  pub missed : (n : ℕ) (xs : List X) → ((j : ℕ) (d : X) → j < length xs → (key (slice_index_or xs j d) == address) ≡ false) → find n xs ≡ None
  missed n [] other = none n
  missed n (x ∷ xs) other =
      more n x xs ∙ ap (λ (t : Bool). if t then Some n else find (suc n) xs) (other 0 x (omega arith))
      ∙ missed (suc n) xs (λ j d l. other (suc j) d (omega arith))

  pub found : (n k : ℕ) (xs : List X) (d : X) → k < length xs → (key (slice_index_or xs k d) == address) ≡ true
      → ((j : ℕ) (e : X) → j < k → (key (slice_index_or xs j e) == address) ≡ false) → find n xs ≡ Some (n + k)
  found n k [] d within here before = absurd (omega arith)
  found n zero (x ∷ xs) d within here before =
      let same : n ≡ n + 0 = omega arith in
      more n x xs ∙ ap (λ (t : Bool). if t then Some n else find (suc n) xs) here ∙ ap Some same
  found n (suc k) (x ∷ xs) d within here before =
      let same : suc n + k ≡ n + suc k = omega arith in
      more n x xs ∙ ap (λ (t : Bool). if t then Some n else find (suc n) xs) (before 0 x (omega arith))
      ∙ found (suc n) k xs d (omega arith) here (λ j e l. before (suc j) e (omega arith)) ∙ ap Some same

  module _ (xs : List X) (p : ℕ) (within : p ≤ length xs) (up : Ascend key xs)
      (point : IsPartitionPoint (λ y. nat_le (key y) address ≡ true) (λ y. nat_le (key y) address ≡ false) xs p) where
    below : (j : ℕ) (d : X) → j + 1 < p → (key (slice_index_or xs j d) == address) ≡ false
    below j d less =
        let low : key (slice_index_or xs j d) < key (slice_index_or xs (p - 1) d) = up j (p - 1) d (omega arith) (omega arith) in
        let last = point.0 (p - 1) d (omega arith) (omega arith) in
        grind (arith, nat_tests, low, last)

    above : (j : ℕ) (d : X) → p ≤ j → j < length xs → (key (slice_index_or xs j d) == address) ≡ false
    above j d from less = let past = point.1 j d from less in grind (arith, nat_tests, past)

    pub finds : (d : X) → 0 < p → key (slice_index_or xs (p - 1) d) ≡ address → find 0 xs ≡ Some (p - 1)
    finds d some here =
        let same : 0 + (p - 1) ≡ p - 1 = omega arith in
        found 0 (p - 1) xs d (omega arith) (grind (arith, nat_tests, here)) (λ j e l. below j e (omega arith)) ∙ ap Some same

    other : (d : X) → (0 < p → key (slice_index_or xs (p - 1) d) ≡ address → ⊥) → (j : ℕ) → j < length xs → (key (slice_index_or xs j d) == address) ≡ false
    other d none_there j less = by_test (nat_lt (j + 1) p) (nat_le p j) refl refl
      where
        same_last : j ≡ p - 1 → key (slice_index_or xs j d) ≡ key (slice_index_or xs (p - 1) d)
        same_last e = ap (λ k. key (slice_index_or xs k d)) e

        by_test : (s t : Bool) → nat_lt (j + 1) p ≡ s → nat_le p j ≡ t → (key (slice_index_or xs j d) == address) ≡ false
        by_test true t e h = below j d (grind (arith, nat_tests, e))
        by_test false true e h = above j d (grind (arith, nat_tests, h)) less
        by_test false false e h =
            let at : j ≡ p - 1 = grind (arith, nat_tests, e, h) in
            let there = same_last at in
            let some : 0 < p = grind (arith, nat_tests, h) in
            let differ = none_there some in
            grind (arith, nat_tests, there, differ)

    any_default : (ys : List X) (j : ℕ) (d e : X) → j < length ys → slice_index_or ys j d ≡ slice_index_or ys j e
    any_default [] j d e less = absurd (omega arith)
    any_default (y ∷ ys) zero d e less = refl
    any_default (y ∷ ys) (suc j) d e less = any_default ys j d e (omega arith)

    -- the last item that lies at the address or below doesn't lie at it
    pub misses : (e : X) → 0 < p → (key (slice_index_or xs (p - 1) e) ≡ address → ⊥) → find 0 xs ≡ None
    misses e some differ = missed 0 xs (λ j d l. other d (λ _ same. differ (ap key (any_default xs (p - 1) e d (omega arith)) ∙ same)) j l)

    -- all items lie above
    pub misses_all : p ≡ 0 → find 0 xs ≡ None
    misses_all is = missed 0 xs (λ j d l. other d (λ some same. absurd (omega arith)) j l)

pub rises : (X : Type 0) (key : X → ℕ) (xs : List X) → Ascend key xs → IsNonDecreasingBy key xs
rises X key xs up i j d le within = by_test (nat_lt i j) refl
  where
    by_test : (t : Bool) → nat_lt i j ≡ t → key (slice_index_or xs i d) ≤ key (slice_index_or xs j d)
    by_test true h = let less = up i j d (grind (arith, nat_tests, h)) within in omega arith
    by_test false h =
        let same : key (slice_index_or xs i d) ≡ key (slice_index_or xs j d) = ap (λ k. key (slice_index_or xs k d)) (let e : i ≡ j = grind (arith, nat_tests, h) in e) in
        omega arith
