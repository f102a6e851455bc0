-- Facts of small numbers by computing them all: `all_below k p` tests p at each number below k, and `all_below_at` reads one case off.
-- `each_window` does it for all window counts from 4 to 32 and all their windows.
use Rattle.std.proofs.Common.{◌≡◌, ℕ, zero, suc, ◌<◌, ◌≤◌, Bool, true, false, refl, ap, ◌∙◌, arith, ◌⊎◌, inl, inr}
use Rattle.std.specs.Prelude.{if◌then◌else◌, nat_lt}
use Rattle.std.proofs.lemmas.Bool.Decides.{nat_tests}

abbrev pub all_below : ℕ → (ℕ → Bool) → Bool
all_below zero p = true
all_below (suc k) p = if p k then all_below k p else false

pub all_below_at : (k : ℕ) (p : ℕ → Bool) → all_below k p ≡ true → (i : ℕ) → i < k → p i ≡ true
all_below_at zero p h i lt = absurd (omega arith)
all_below_at (suc k) p h i lt = by_here (p k) refl (all_below_at k p)
  where
    by_here : (b : Bool) → p k ≡ b → (all_below k p ≡ true → (j : ℕ) → j < k → p j ≡ true) → p i ≡ true
    by_here false is before = let bad : false ≡ true = rw is at h in cc
    by_here true is before =
        let rest : all_below k p ≡ true = rw is at h in
        let split : (i < k) ⊎ (i ≡ k) = search arith in
        elim split [ inl small ↦ before rest i small | inr same ↦ ap p same ∙ is ]

-- a test of each window of n windows, for n from 4
abbrev pub windows_pass : (ℕ → ℕ → Bool) → ℕ → Bool
windows_pass p n = if nat_lt n 4 then true else all_below n (p n)

pub each_window : (p : ℕ → ℕ → Bool) → all_below 33 (windows_pass p) ≡ true → (n w : ℕ) → 4 ≤ n → n ≤ 32 → w < n →
    p n w ≡ true
each_window p h n w few many within =
    let row : windows_pass p n ≡ true = all_below_at 33 (windows_pass p) h n (omega arith) in
    let some : nat_lt n 4 ≡ false = grind (arith, nat_tests) in
    let here : all_below n (p n) ≡ true = rw some at row in
    all_below_at n (p n) here w within
