-- Windows by their distance from the current one.
use Rattle.std.proofs.Common.{◌≡◌, ◌≢◌, ℕ, zero, suc, ◌+◌, ◌-◌, ◌*◌, ◌%◌, ◌<◌, ◌≤◌, ◌⊎◌, inl, inr, Bool, true, false, refl, sym, ap, ◌∙◌, arith}
use Rattle.std.specs.Prelude.{◌==◌}
use Rattle.std.proofs.lemmas.Bool.Decides.{nat_tests}
use Rattle.std.proofs.Math.Nat.{mod-eq_of_lt, add-mul-mod_self_left}
use Rattle.v8_core.specs.Windows.{below, above}
use Rattle.v8_windows.proofs.Neighbours.{above_last, below_first, below_next}
use Rattle.sbx_shows.specs.Shows.{window}

pub window_here : (n c : ℕ) → c < n → window n c 0 ≡ c
window_here n c here = let e : c + 0 ≡ c = omega arith in ap (λ q. q % n) e ∙ mod-eq_of_lt here

pub window_is : (n c k : ℕ) → c < n → k < n → (window n c k < n) × ((window n c k ≡ c + k) ⊎ (window n c k + n ≡ c + k))
window_is n c k here less =
    let split : (c + k < n) ⊎ (n ≤ c + k) = search arith in
    elim split [
      | inl small ↦
          let m : window n c k ≡ c + k = mod-eq_of_lt small in
          (omega arith, inl m)
      | inr large ↦
          let e : c + k ≡ (c + k - n) + n * 1 = omega arith in
          let small : c + k - n < n = omega arith in
          let m : window n c k ≡ c + k - n = ap (λ q. q % n) e ∙ add-mul-mod_self_left (c + k - n) n 1 ∙ mod-eq_of_lt small in
          (omega arith, inr (omega arith))
    ]

pub window_within : (n c k : ℕ) → c < n → k < n → window n c k < n
window_within n c k here less = (window_is n c k here less).0

pub same_distance : (n c j k : ℕ) → c < n → j < n → k < n → window n c j ≡ window n c k → j ≡ k
same_distance n c j k here a b same =
    elim (window_is n c j here a).1 [
      | inl e ↦ elim (window_is n c k here b).1 [ inl f ↦ omega arith | inr f ↦ omega arith ]
      | inr e ↦ elim (window_is n c k here b).1 [ inl f ↦ omega arith | inr f ↦ omega arith ]
    ]

-- a test of windows is one of distances
pub window_test : (n c k j : ℕ) → c < n → k < n → j < n → (window n c k == window n c j) ≡ (k == j)
window_test n c k j here a b = by_same (k == j) refl
  where
    by_same : (t : Bool) → (k == j) ≡ t → (window n c k == window n c j) ≡ (k == j)
    by_same true e =
        let same : k ≡ j = grind (arith, nat_tests) in
        let w : window n c k ≡ window n c j = ap (λ x. window n c x) same in
        let t : (window n c k == window n c j) ≡ true = grind (arith, nat_tests) in
        t ∙ sym e
    by_same false e =
        let other : k ≢ j = grind (arith, nat_tests) in
        let w : window n c k ≢ window n c j = λ same. other (same_distance n c k j here a b same) in
        let t : (window n c k == window n c j) ≡ false = grind (arith, nat_tests) in
        t ∙ sym e

-- the window below is the farthest one
pub below_is : (n c : ℕ) → 4 ≤ n → below n c ≡ window n c (n - 1)
below_is n c few = let e : c + n - 1 ≡ c + (n - 1) = omega arith in ap (λ q. q % n) e

-- from the window below each is one farther
pub window_below : (n c k : ℕ) → 4 ≤ n → c < n → window n (below n c) (suc k) ≡ window n c k
window_below n zero k few here =
    let e : n - 1 + suc k ≡ 0 + k + n * 1 = omega arith in
    ap (λ q. (q + suc k) % n) (below_first n few) ∙ ap (λ q. q % n) e ∙ add-mul-mod_self_left (0 + k) n 1
window_below n (suc c) k few here =
    let e : c + suc k ≡ suc c + k = omega arith in
    ap (λ q. (q + suc k) % n) (below_next n c few here) ∙ ap (λ q. q % n) e

-- from the window above one nearer
pub window_above : (n c k : ℕ) → 4 ≤ n → c < n → window n (above n c) k ≡ window n c (suc k)
window_above n c k few here =
    let split : (c + 1 ≡ n) ⊎ (c + 1 < n) = search arith in
    elim split [
      | inl last ↦
          let e : c + suc k ≡ 0 + k + n * 1 = omega arith in
          ap (λ q. (q + k) % n) (above_last n c few last) ∙ sym (ap (λ q. q % n) e ∙ add-mul-mod_self_left (0 + k) n 1)
      | inr less ↦
          let e : c + 1 + k ≡ c + suc k = omega arith in
          ap (λ q. (q + k) % n) (mod-eq_of_lt less) ∙ ap (λ q. q % n) e
    ]

-- the window below the window below
pub two_below : (n c : ℕ) → 4 ≤ n → c < n → below n (below n c) ≡ window n c (n - 2)
two_below n c few here =
    let e : n - 1 ≡ suc (n - 2) = omega arith in
    below_is n (below n c) few ∙ ap (window n (below n c)) e ∙ window_below n c (n - 2) few here
