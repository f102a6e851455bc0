-- Products of whole numbers, as far as sums of terms ask.
use Rattle.std.proofs.Common.{◌≡◌, ◌+◌, ◌*◌, ap, arith}
use Rattle.std.specs.Prelude.{ℤ, pos, ◌+ℤ◌, ◌*ℤ◌, neg_ℤ}
use Rattle.std.proofs.lemmas.Int.{ints}
use borrow.Author.Differences.{up, down}
use Rattle.std.proofs.Math.IntN.{*ℤ_comm}

pub times_sum : (v c d : ℤ) → v *ℤ (c +ℤ d) ≡ (v *ℤ c) +ℤ (v *ℤ d)
times_sum v c d =
    let e : up (c +ℤ d) + (down c + down d) ≡ (up c + up d) + down (c +ℤ d) = omega (arith, ints) in
    let p = ap (λ n. up v * n) e in
    let q = ap (λ n. down v * n) e in
    omega (arith, ints)

pub times_neg : (v c : ℤ) → (v *ℤ c) +ℤ (v *ℤ neg_ℤ c) ≡ pos 0
times_neg v c =
    let s = times_sum v c (neg_ℤ c) in
    let z : c +ℤ neg_ℤ c ≡ pos 0 = omega (arith, ints) in
    let e = ap (λ d. v *ℤ d) z in
    omega (arith, ints)

-- a number that is replaced by a sum
pub sum_less : (a b c : ℤ) → ((a +ℤ b) *ℤ c) +ℤ ((neg_ℤ c *ℤ a) +ℤ (neg_ℤ c *ℤ b)) ≡ pos 0
sum_less a b c =
    let m = *ℤ_comm (a +ℤ b) c in
    let s = times_sum c a b in
    let x = times_neg a c in
    let y = times_neg b c in
    let p = *ℤ_comm a (neg_ℤ c) in
    let q = *ℤ_comm b (neg_ℤ c) in
    let r = *ℤ_comm a c in
    let t = *ℤ_comm b c in
    omega (arith, ints)
