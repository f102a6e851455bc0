use Rattle.std.proofs.Common.{◌≡◌, ◌≢◌, ℕ, zero, suc, ◌+◌, ◌-◌, ◌*◌, ◌%◌, ◌<◌, ◌≤◌, refl, sym, ap, ◌∙◌, arith}
use Rattle.std.proofs.Math.Nat.{mod-eq_of_lt, add-mul-mod_self_left}

-- the window below the first one is the last one
pub below_first : (n : ℕ) → 4 ≤ n → (0 + n - 1) % n ≡ n - 1
below_first n some =
    let less : 0 + n - 1 < n = omega arith in
    let e : 0 + n - 1 ≡ n - 1 = omega arith in
    mod-eq_of_lt less ∙ e

pub below_next : (n w : ℕ) → 4 ≤ n → suc w < n → (suc w + n - 1) % n ≡ w
below_next n w some less =
    let e : suc w + n - 1 ≡ w + n * 1 = omega arith in
    let small : w < n = omega arith in
    ap (λ k. k % n) e ∙ add-mul-mod_self_left w n 1 ∙ mod-eq_of_lt small

pub below_other : (n w : ℕ) → 4 ≤ n → w < n → w ≢ 0 → (w + n - 1) % n ≡ w - 1
below_other n zero some less other = absurd (other refl)
below_other n (suc w) some less other =
    let e : suc w - 1 ≡ w = omega arith in
    below_next n w some less ∙ sym e

-- the window above the last one is the first one
pub above_last : (n w : ℕ) → 4 ≤ n → w + 1 ≡ n → (w + 1) % n ≡ 0
above_last n w some last =
    let e : w + 1 ≡ 0 + n * 1 = omega arith in
    let small : 0 < n = omega arith in
    ap (λ k. k % n) e ∙ add-mul-mod_self_left 0 n 1 ∙ mod-eq_of_lt small

pub above_next : (n w : ℕ) → w < n → w + 1 ≢ n → (w + 1) % n ≡ w + 1
above_next n w less other =
    let small : w + 1 < n = omega arith in
    mod-eq_of_lt small
