-- Logical operations lie in their ranges.
use Rattle.std.proofs.Common.{◌≡◌, ℕ, zero, suc, ◌+◌, ◌-◌, ◌*◌, ◌/◌, ◌^◌, ◌<◌, ◌≤◌, true, refl, sym, ap, ◌∙◌, subst, arith, inl, inr}
use Rattle.std.specs.Prelude.{ℤ, pos, negsuc, ◌≤ℤ◌, max, bit_and, bit_or, bit_xor}
use Rattle.std.specs.Int.{w32, leading_zeros, int_max}
use Rattle.std.specs.Int.Count.{count_leading_zeros}
use lib.Pow.{pow_mono}
use Rattle.std.proofs.lemmas.Bool.{cases_lt}
use Rattle.std.proofs.lemmas.Nat.{or_comm, leading_length, or_lt, xor_lt, le_or_l, le_or_r, and_le_l, and_le_r, le-div, pow_pos}
use Rattle.std.proofs.lemmas.Int.{ints, clamps}
use Rattle.v8_alu.specs.Results.{signed}
use Rattle.v8_alu.specs.Outcomes.{complement}
use Rattle.sbx_image.specs.Range.{Range}
use Rattle.sbx_range.specs.Laws.{OnesAreLeast}
use Rattle.sbx_range.specs.Ranges.{InInterval, range, is_zero, is_natural, both_natural}
use Rattle.sbx_range.specs.Rows.{least_alignment, greatest_alignment, natural_of, ones_above, ones_of, range_or, range_and, range_andn, range_xor}
use Rattle.sbx_range.proofs.Words.{in_all, both_true, by_test, signed-natural, natural-word, is_zero-word}

-- ---- all ones below a power of two

pow-small : (k : ℕ) → 2 ^ k < 2 ^ 32 → k ≤ 31
pow-small k h = elim (cases_lt k 32) [ inl small ↦ omega arith | inr large ↦ absurd (let g = pow_mono large in omega arith) ]

-- the least k whose power is above a word
pub ones_above-bound : (n : ℕ) → n < 2 ^ 32 → (k : ℕ) × (k ≤ 32) × (n < 2 ^ k) × (2 ^ k ≤ 2 * n + 1) × (ones_above n ≡ 2 ^ k - 1)
ones_above-bound n h =
    let t = leading_length 32 n h in
    let k : ℕ = t.0 in
    let e : leading_zeros w32 n + k ≡ 32 = t.1 in
    (k, omega arith, t.2, t.3, ap (λ j. 2 ^ j - 1) (omega arith))

pub ones_above-small : (n : ℕ) → n < 2 ^ 31 → ones_above n < 2 ^ 31
ones_above-small n h =
    let o = ones_above-bound n (omega arith) in
    let k : ℕ = o.0 in
    let least : 2 ^ k ≤ 2 * n + 1 = o.3 in
    let e : ones_above n ≡ 2 ^ k - 1 = o.4 in
    let top : k ≤ 31 = pow-small k (omega arith) in
    let m : 2 ^ k ≤ 2 ^ 31 = pow_mono {i = k} {j = 31} top in
    let some = pow_pos k in
    omega arith

-- a number with more than k digits has no leading zero among k
no-zeros : (k n : ℕ) → 2 ^ k ≤ n → count_leading_zeros k n ≡ 0
unfolding count_leading_zeros
no-zeros zero n h = refl
no-zeros (suc k) zero h = absurd (let g = pow_pos (suc k) in omega arith)
no-zeros (suc k) (suc n) h = no-zeros k (suc n / 2) (le-div (2 ^ k) (suc n) 2 (omega arith) (omega arith))

-- each word whose bits lie among those of numbers up to n
pub at-most-ones : (n w : ℕ) → w < 2 ^ 32 → ((k : ℕ) → n < 2 ^ k → w < 2 ^ k) → w ≤ ones_above n
at-most-ones n w p has = elim (cases_lt n (2 ^ 32)) [
  | inl small ↦
      (let o = ones_above-bound n small in
      let k : ℕ = o.0 in
      let e : ones_above n ≡ 2 ^ k - 1 = o.4 in
      let b : w < 2 ^ k = has k o.2 in
      omega arith)
  | inr large ↦
      (let z : leading_zeros w32 n ≡ 0 = no-zeros 32 n large in
      let e : ones_above n ≡ 2 ^ 32 - 1 = ap (λ j. 2 ^ (32 - j) - 1) z in
      omega arith)
]

-- ---- OR and XOR

natural-hi : (h : ℤ) (w : ℕ) → w < 2 ^ 31 → signed w ≤ℤ h → w ≤ natural_of h
natural-hi (pos n) w b le = omega (arith, ints)
natural-hi (negsuc n) w b le = omega (arith, ints)

-- two words of ranges without negative numbers
pub record AreNatural (a b : Range) (x y : ℕ) : Type 0 where
  pub first : x < 2 ^ 31
  pub second : y < 2 ^ 31
  pub first_high : x ≤ natural_of a.hi
  pub second_high : y ≤ natural_of b.hi

pub are_natural : (a b : Range) (x y : ℕ) → x < 2 ^ 32 → y < 2 ^ 32 → both_natural a b ≡ true → InInterval a x → InInterval b y → AreNatural a b x y
are_natural a b x y p q t s u =
    let both = both_true (is_natural a.lo) (is_natural b.lo) t in
    let sx = natural-word a.lo x p both.0 s.low in
    let sy = natural-word b.lo y q both.1 u.low in
    record { first = sx; second = sy; first_high = natural-hi a.hi x sx s.high; second_high = natural-hi b.hi y sy u.high }

below-ones : (a b : Range) (x y w : ℕ) → AreNatural a b x y → w < 2 ^ 31 → ((k : ℕ) → x < 2 ^ k → y < 2 ^ k → w < 2 ^ k) → signed w ≤ℤ ones_of a b
below-ones a b x y w n small has =
    let g = n.first_high in
    let h = n.second_high in
    let m = at-most-ones (max (natural_of a.hi) (natural_of b.hi)) w (omega arith) (λ k up. has k (omega arith) (omega arith)) in
    rw (signed-natural w small) (omega (arith, ints))

or-natural : (a b : Range) (x y : ℕ) → AreNatural a b x y → InInterval a x → InInterval b y → InInterval (range (int_max a.lo b.lo) (ones_of a b) (least_alignment a b)) (bit_or x y)
or-natural a b x y n s u =
    let small : bit_or x y < 2 ^ 31 = or_lt 31 x y n.first n.second in
    let r : signed (bit_or x y) ≡ pos (bit_or x y) = signed-natural (bit_or x y) small in
    let rx : signed x ≡ pos x = signed-natural x n.first in
    let ry : signed y ≡ pos y = signed-natural y n.second in
    let l = s.low in
    let m = u.low in
    let gx = le_or_l x y in
    let gy = le_or_r x y in
    record { low = rw r (omega (arith, ints, clamps)); high = below-ones a b x y (bit_or x y) n small (λ k. or_lt k x y) }

zero_or : (n : ℕ) → bit_or 0 n ≡ n
zero_or n = refl

pub in_range_or : (a b : Range) (x y : ℕ) → x < 2 ^ 32 → y < 2 ^ 32 → InInterval a x → InInterval b y → InInterval (range_or a b) (bit_or x y)
unfolding range_or
in_range_or a b x y p q s u =
    let P : Range → Type 0 = λ r. InInterval r (bit_or x y) in
    by_test (is_zero a) P _ _
    (λ z. let e : bit_or x y ≡ y = ap (λ n. bit_or n y) (is_zero-word a x p z s) ∙ zero_or y in subst (InInterval b) (sym e) u)
    (λ _. by_test (is_zero b) P _ _
    (λ z. let e : bit_or x y ≡ x = ap (λ n. bit_or x n) (is_zero-word b y q z u) ∙ (or_comm x 0 ∙ zero_or x) in subst (InInterval a) (sym e) s)
    (λ _. by_test (both_natural a b) P _ _ (λ t. or-natural a b x y (are_natural a b x y p q t s u) s u) (λ _. in_all (least_alignment a b) (bit_or x y) (or_lt 32 x y p q))))

xor-natural : (a b : Range) (x y : ℕ) → AreNatural a b x y → InInterval (range (pos 0) (ones_of a b) (least_alignment a b)) (bit_xor x y)
xor-natural a b x y n =
    let small : bit_xor x y < 2 ^ 31 = xor_lt 31 x y n.first n.second in
    let r : signed (bit_xor x y) ≡ pos (bit_xor x y) = signed-natural (bit_xor x y) small in
    record { low = rw r (omega (arith, ints)); high = below-ones a b x y (bit_xor x y) n small (λ k. xor_lt k x y) }

pub in_range_xor : (a b : Range) (x y : ℕ) → x < 2 ^ 32 → y < 2 ^ 32 → InInterval a x → InInterval b y → InInterval (range_xor a b) (bit_xor x y)
unfolding range_xor
in_range_xor a b x y p q s u =
    by_test (both_natural a b) (λ r. InInterval r (bit_xor x y)) _ _
    (λ t. xor-natural a b x y (are_natural a b x y p q t s u))
    (λ _. in_all (least_alignment a b) (bit_xor x y) (xor_lt 32 x y p q))

-- ---- AND and ANDN

-- a word that is at most one below 2 ^ 31
and-below : (h : ℤ) (x n : ℕ) → x < 2 ^ 31 → n ≤ x → signed x ≤ℤ h → (pos 0 ≤ℤ signed n) × (signed n ≤ℤ h)
and-below h x n b le top =
    let rn : signed n ≡ pos n = signed-natural n (omega arith) in
    let rx : signed x ≡ pos x = signed-natural x b in
    (omega (arith, ints), omega (arith, ints))

pub in_range_and : (a b : Range) (x y : ℕ) → x < 2 ^ 32 → y < 2 ^ 32 → InInterval a x → InInterval b y → InInterval (range_and a b) (bit_and x y)
unfolding range_and
in_range_and a b x y p q s u =
    let P : Range → Type 0 = λ r. InInterval r (bit_and x y) in
    let left : is_natural a.lo ≡ true → (pos 0 ≤ℤ signed (bit_and x y)) × (signed (bit_and x y) ≤ℤ a.hi) = λ t. and-below a.hi x _ (natural-word a.lo x p t s.low) (and_le_l x y) s.high in
    let right : is_natural b.lo ≡ true → (pos 0 ≤ℤ signed (bit_and x y)) × (signed (bit_and x y) ≤ℤ b.hi) = λ t. and-below b.hi y _ (natural-word b.lo y q t u.low) (and_le_r x y) u.high in
    by_test (both_natural a b) P _ _
    (λ t. let both = both_true (is_natural a.lo) (is_natural b.lo) t in
    let l = left both.0 in
    let r = right both.1 in
    record { low = l.0; high = omega (arith, ints, clamps) })
    (λ _. by_test (is_natural a.lo) P _ _ (λ t. record { low = (left t).0; high = (left t).1 })
    (λ _. by_test (is_natural b.lo) P _ _ (λ t. record { low = (right t).0; high = (right t).1 })
    (λ _. in_all (greatest_alignment a b) (bit_and x y) (let g = and_le_l x y in omega arith))))

pub in_range_andn : (a b : Range) (x y : ℕ) → x < 2 ^ 32 → InInterval a x → InInterval (range_andn a b) (bit_and x (complement y))
unfolding range_andn
in_range_andn a b x y p s =
    let less = and_le_l x (complement y) in
    by_test (is_natural a.lo) (λ r. InInterval r (bit_and x (complement y))) _ _
    (λ t. let h = and-below a.hi x _ (natural-word a.lo x p t s.low) less s.high in record { low = h.0; high = h.1 })
    (λ _. in_all a.alignment (bit_and x (complement y)) (omega arith))

-- the power of a lesser exponent is not above n
least-exponent : (k j n : ℕ) → 2 ^ k ≤ 2 * n + 1 → n < 2 ^ j → k ≤ j
least-exponent k j n most above = elim (cases_lt j k) [
  | inl less ↦ absurd (let m = pow_mono {i = suc j} {j = k} less in let d : 2 ^ suc j ≡ 2 * 2 ^ j = omega arith in omega arith)
  | inr more ↦ more
]

pub ones_are_least : OnesAreLeast
ones_are_least n h =
    let o = ones_above-bound n h in
    (o.0, o.4, o.2, λ j above. least-exponent o.0 j n o.3 above)
