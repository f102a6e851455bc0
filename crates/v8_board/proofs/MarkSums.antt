-- Bits added to a number, each in its place.
use Rattle.std.proofs.Common.{◌≡◌, ℕ, suc, ◌+◌, ◌*◌, ◌%◌, ◌^◌, ◌<◌, ◌≤◌, ◌⊎◌, inl, inr, List, refl, sym, ap, ◌∙◌, subst, arith}
use Rattle.std.proofs.Math.Nat.{pow-le-pow_right, pow-succ', mod-eq_of_lt}
use Rattle.v8_core.specs.Ram.{entry_of}
use Rattle.v8_board.specs.Marks.{bit_of, marks}

power : (i : ℕ) → i < 64 → 2 ^ i ≤ 2 ^ 63
power i small = pow-le-pow_right {n = 2} (omega arith) {i = i} {j = 63} (omega arith)

pub placed_bit : (b i : ℕ) → b < 2 → b * 2 ^ i ≤ 2 ^ i
placed_bit b i few =
    let split : (b ≡ 0) ⊎ (b ≡ 1) = search arith in
    elim split [
      | inl none ↦ subst (λ x. x * 2 ^ i ≤ 2 ^ i) (sym none) (omega arith)
      | inr one ↦ subst (λ x. x * 2 ^ i ≤ 2 ^ i) (sym one) (omega arith)
    ]

pub shifted : (b i : ℕ) → b < 2 → i < 64 → b * 2 ^ i % 2 ^ 64 ≡ b * 2 ^ i
shifted b i few small =
    let p = power i small in
    let q = placed_bit b i few in
    let less : b * 2 ^ i < 2 ^ 64 = omega arith in
    mod-eq_of_lt less

pub sum_fits : (all b i : ℕ) → all < 2 ^ i → b < 2 → i < 64 → all + b * 2 ^ i < 2 ^ 64
sum_fits all b i bound few small =
    let p = power i small in
    let q = placed_bit b i few in
    omega arith

pub sum_bound : (all b i : ℕ) → all < 2 ^ i → b < 2 → all + b * 2 ^ i < 2 ^ (i + 1)
sum_bound all b i bound few =
    let q = placed_bit b i few in
    let one : i + 1 ≡ suc i = omega arith in
    let twice : 2 ^ (i + 1) ≡ 2 * 2 ^ i = ap (λ k. 2 ^ k) one ∙ pow-succ' 2 i in
    omega arith

pub one_mark_more : (ram : List ℕ) (table low i all b : ℕ) → all ≡ marks ram table low i → b ≡ bit_of (entry_of ram (table + 4 * i)) low → all + b * 2 ^ i ≡ marks ram table low (i + 1)
unfolding marks
one_mark_more ram table low i all b before bit =
    let one : i + 1 ≡ suc i = omega arith in
    ap (λ x. x + b * 2 ^ i) before ∙ ap (λ x. marks ram table low i + x * 2 ^ i) bit ∙ sym (ap (marks ram table low) one)

pub no_marks : (ram : List ℕ) (table low : ℕ) → 0 ≡ marks ram table low 0
unfolding marks
no_marks ram table low = refl
