-- Multiples of powers of two: what operations on words keep of them. No range is in sight here, and every exponent will do.
use Rattle.std.proofs.Common.{◌≡◌, ℕ, suc, ◌+◌, ◌-◌, ◌*◌, ◌/◌, ◌%◌, ◌^◌, ◌<◌, ◌≤◌, false, refl, sym, ap, ◌∙◌, subst, arith, inl, inr}
use Rattle.std.specs.Prelude.{ℤ, pos, negsuc, ◌+ℤ◌, ◌*ℤ◌, unsigned_abs, min, bit_and, bit_or, bit_xor}
use Rattle.std.specs.Int.{cast_unsigned, w32, w64}
use lib.Pow.{pow_mono}
use Rattle.std.proofs.lemmas.Bool.{cases_lt}
use Rattle.std.proofs.Math.Nat.{mul_assoc, mul-sub}
use Rattle.std.proofs.lemmas.Nat.{mul-le, mod-pow-add, mod-mul-add, pow_pos, pow-add, shr_split, and_mod, or_mod, xor_mod, and_comm, field_of, div-mul-add, div-add-mod', mod_below, div_below}
use Rattle.std.proofs.lemmas.Bool.Decides.{nat_tests}
use Rattle.std.proofs.lemmas.Int.{ints, unsigned_abs-mul}
use Rattle.v8_alu.specs.Results.{signed, signed_product, low_word, sum, difference, shifted_left, shifted_right_signed}
use Rattle.sbx_range.specs.Ranges.{alignment_of}
use Rattle.sbx_range.specs.Rows.{halved}
use Rattle.sbx_range.proofs.Words.{signed-word}

aligned-multiple : (q k : ℕ) → (q * 2 ^ k) % 2 ^ k ≡ 0
aligned-multiple q k =
    let z : q * 2 ^ k + 0 ≡ q * 2 ^ k = omega arith in
    ap (λ m. m % 2 ^ k) (sym z) ∙ mod-mul-add q (2 ^ k) 0 (pow_pos k)

sub-mul : (q r p : ℕ) → (q - r) * p ≡ q * p - r * p
sub-mul q r p = let e = mul-sub p q r in let f : (q - r) * p ≡ p * (q - r) = omega arith in let g : p * q ≡ q * p = omega arith in let h : p * r ≡ r * p = omega arith in rw (f, e, g, h) refl

-- n is its quotient times the power
aligned-parts : (n k : ℕ) → n % 2 ^ k ≡ 0 → n / 2 ^ k * 2 ^ k ≡ n
aligned-parts n k h = let e = shr_split n k in omega arith

pub aligned-fewer : (j k n : ℕ) → j ≤ k → n % 2 ^ k ≡ 0 → n % 2 ^ j ≡ 0
aligned-fewer j k n le h =
    let s : k - j + j ≡ k = omega arith in
    let d : 2 ^ (k - j) * 2 ^ j ≡ 2 ^ k = sym (pow-add 2 (k - j) j) ∙ ap (λ i. 2 ^ i) s in
    let e : n / 2 ^ k * 2 ^ (k - j) * 2 ^ j ≡ n = mul_assoc (n / 2 ^ k) (2 ^ (k - j)) (2 ^ j) ∙ (ap (λ m. n / 2 ^ k * m) d ∙ aligned-parts n k h) in
    let F : ℕ → Type 0 = λ m. m % 2 ^ j ≡ 0 in
    subst F e (aligned-multiple (n / 2 ^ k * 2 ^ (k - j)) j)

aligned-power : (j k : ℕ) → j ≤ k → 2 ^ k % 2 ^ j ≡ 0
aligned-power j k le =
    let o : 1 * 2 ^ k ≡ 2 ^ k = omega arith in
    aligned-fewer j k (2 ^ k) le (ap (λ m. m % 2 ^ k) (sym o) ∙ aligned-multiple 1 k)

aligned-plus : (k n m : ℕ) → n % 2 ^ k ≡ 0 → m % 2 ^ k ≡ 0 → (n + m) % 2 ^ k ≡ 0
aligned-plus k n m h g =
    let a = aligned-parts n k h in
    let b = aligned-parts m k g in
    let e : (n / 2 ^ k + m / 2 ^ k) * 2 ^ k ≡ n + m = omega arith in
    let F : ℕ → Type 0 = λ i. i % 2 ^ k ≡ 0 in
    subst F e (aligned-multiple (n / 2 ^ k + m / 2 ^ k) k)

aligned-minus : (k n m : ℕ) → n % 2 ^ k ≡ 0 → m % 2 ^ k ≡ 0 → (n - m) % 2 ^ k ≡ 0
aligned-minus k n m h g =
    let a = aligned-parts n k h in
    let b = aligned-parts m k g in
    let d : (n / 2 ^ k - m / 2 ^ k) * 2 ^ k ≡ n / 2 ^ k * 2 ^ k - m / 2 ^ k * 2 ^ k = sub-mul (n / 2 ^ k) (m / 2 ^ k) (2 ^ k) in
    let e : (n / 2 ^ k - m / 2 ^ k) * 2 ^ k ≡ n - m = omega arith in
    let F : ℕ → Type 0 = λ i. i % 2 ^ k ≡ 0 in
    subst F e (aligned-multiple (n / 2 ^ k - m / 2 ^ k) k)

-- past the reduction to a word
pub aligned-word : (j n : ℕ) → j ≤ 32 → n % 2 ^ j ≡ 0 → n % 2 ^ 32 % 2 ^ j ≡ 0
aligned-word j n le h =
    let e : n % 2 ^ (32 - j + j) ≡ (n / 2 ^ j % 2 ^ (32 - j)) * 2 ^ j + n % 2 ^ j = mod-pow-add n (32 - j) j in
    let s : 32 - j + j ≡ 32 = omega arith in
    let F : ℕ → Type 0 = λ i. n % 2 ^ i ≡ (n / 2 ^ j % 2 ^ (32 - j)) * 2 ^ j + n % 2 ^ j in
    let e' = subst F s e in
    let g : n % 2 ^ 32 ≡ (n / 2 ^ j % 2 ^ (32 - j)) * 2 ^ j = omega arith in
    ap (λ m. m % 2 ^ j) g ∙ aligned-multiple (n / 2 ^ j % 2 ^ (32 - j)) j

-- a word that is a multiple of 2 ^ 32 or more is 0
none-left : (k x : ℕ) → 32 ≤ k → x < 2 ^ 32 → x % 2 ^ k ≡ 0 → x ≡ 0
none-left k x large b h =
    let f = aligned-fewer 32 k x large h in
    omega arith

zero_over : (n : ℕ) → 0 / n ≡ 0
zero_over n = omega arith

zero_aligned : (k : ℕ) → 0 % 2 ^ k ≡ 0
zero_aligned k = let e : 0 * 2 ^ k ≡ 0 = omega arith in ap (λ m. m % 2 ^ k) (sym e) ∙ aligned-multiple 0 k

-- ---- sums and differences

pub aligned-sum : (k x y : ℕ) → x < 2 ^ 32 → y < 2 ^ 32 → x % 2 ^ k ≡ 0 → y % 2 ^ k ≡ 0 → sum x y false % 2 ^ k ≡ 0
aligned-sum k x y p q h g = elim (cases_lt k 32) [
  | inl small ↦
      (let z : x + y + 0 ≡ x + y = omega arith in
      aligned-word k (x + y + 0) (omega arith) (ap (λ m. m % 2 ^ k) z ∙ aligned-plus k x y h g))
  | inr large ↦
      (let a = none-left k x large p h in
      let b = none-left k y large q g in
      let e : sum x y false ≡ 0 = omega arith in
      ap (λ m. m % 2 ^ k) e ∙ zero_aligned k)
]

pub aligned-difference : (k x y : ℕ) → x < 2 ^ 32 → y < 2 ^ 32 → x % 2 ^ k ≡ 0 → y % 2 ^ k ≡ 0 → difference x y false % 2 ^ k ≡ 0
aligned-difference k x y p q h g = elim (cases_lt k 32) [
  | inl small ↦
      (let z : x + 2 ^ 32 - (y + 0) ≡ x + 2 ^ 32 - y = omega arith in
      aligned-word k (x + 2 ^ 32 - (y + 0)) (omega arith)
      (ap (λ m. m % 2 ^ k) z ∙ aligned-minus k (x + 2 ^ 32) y (aligned-plus k x (2 ^ 32) h (aligned-power k 32 (omega arith))) g))
  | inr large ↦
      (let a = none-left k x large p h in
      let b = none-left k y large q g in
      let e : difference x y false ≡ 0 = omega arith in
      ap (λ m. m % 2 ^ k) e ∙ zero_aligned k)
]

-- ---- logical operations

pub aligned-and : (k x y : ℕ) → x % 2 ^ k ≡ 0 → bit_and x y % 2 ^ k ≡ 0
aligned-and k x y h = and_mod x y k ∙ ap (λ n. bit_and n (y % 2 ^ k)) h

pub aligned-and_right : (k x y : ℕ) → y % 2 ^ k ≡ 0 → bit_and x y % 2 ^ k ≡ 0
aligned-and_right k x y h = ap (λ n. n % 2 ^ k) (and_comm x y) ∙ aligned-and k y x h

pub aligned-or : (k x y : ℕ) → x % 2 ^ k ≡ 0 → y % 2 ^ k ≡ 0 → bit_or x y % 2 ^ k ≡ 0
aligned-or k x y h g = or_mod x y k ∙ ap (λ n. bit_or n (y % 2 ^ k)) h ∙ ap (λ n. bit_or 0 n) g

pub aligned-xor : (k x y : ℕ) → x % 2 ^ k ≡ 0 → y % 2 ^ k ≡ 0 → bit_xor x y % 2 ^ k ≡ 0
aligned-xor k x y h g = xor_mod x y k ∙ ap (λ n. bit_xor n (y % 2 ^ k)) h ∙ ap (λ n. bit_xor 0 n) g

-- ---- products

regroup : (p q a b x y : ℕ) → p * a ≡ x → q * b ≡ y → p * q * (a * b) ≡ x * y
regroup p q a b x y e f = rw (← e, ← f) (omega arith)

aligned-product : (j k x y : ℕ) → x % 2 ^ j ≡ 0 → y % 2 ^ k ≡ 0 → (x * y) % 2 ^ (j + k) ≡ 0
aligned-product j k x y h g =
    let a = aligned-parts x j h in
    let b = aligned-parts y k g in
    let e : x / 2 ^ j * (y / 2 ^ k) * 2 ^ (j + k) ≡ x * y = rw (pow-add 2 j k) (regroup (x / 2 ^ j) (y / 2 ^ k) (2 ^ j) (2 ^ k) x y a b) in
    let F : ℕ → Type 0 = λ m. m % 2 ^ (j + k) ≡ 0 in
    subst F e (aligned-multiple (x / 2 ^ j * (y / 2 ^ k)) (j + k))

pub aligned-umul : (j k x y : ℕ) → x % 2 ^ j ≡ 0 → y % 2 ^ k ≡ 0 → low_word (x * y) % 2 ^ min 3 (j + k) ≡ 0
aligned-umul j k x y h g =
    let p = aligned-product j k x y h g in
    aligned-word (min 3 (j + k)) (x * y) (omega arith) (aligned-fewer (min 3 (j + k)) (j + k) (x * y) (omega arith) p)

pub aligned-sll : (j x y : ℕ) → x % 2 ^ j ≡ 0 → shifted_left x y % 2 ^ min 3 (j + y % 32) ≡ 0
aligned-sll j x y h = aligned-umul j (y % 32) x (2 ^ (y % 32)) h (aligned-power (y % 32) (y % 32) (omega arith))

-- by any count a shift to the left keeps what there is
pub aligned-sll_any : (j x y : ℕ) → x < 2 ^ 32 → x % 2 ^ j ≡ 0 → shifted_left x y % 2 ^ j ≡ 0
aligned-sll_any j x y p h = elim (cases_lt j 32) [
  | inl small ↦
      (let k = y % 32 in
      let m = aligned-product j (y % 32) x (2 ^ (y % 32)) h (aligned-power (y % 32) (y % 32) (omega arith)) in
      aligned-word j (x * 2 ^ (y % 32)) (omega arith) (aligned-fewer j (j + y % 32) (x * 2 ^ (y % 32)) (omega arith) m))
  | inr large ↦
      (let a = none-left j x large p h in
      let e : shifted_left x y ≡ 0 = ap (λ n. (n * 2 ^ (y % 32)) % 2 ^ 32) a ∙ none-shifted (2 ^ (y % 32)) in
      ap (λ m. m % 2 ^ j) e ∙ zero_aligned j)
]
  where
    none-shifted : (n : ℕ) → (0 * n) % 2 ^ 32 ≡ 0
    none-shifted n = omega arith

-- of magnitudes
abs-of : (z : ℤ) (x : ℕ) → x < 2 ^ 32 → (z +ℤ pos (2 ^ 32)) ≡ pos x → unsigned_abs z ≡ 2 ^ 32 - x
abs-of (pos n) x b e = absurd (omega (arith, ints))
abs-of (negsuc n) x b e = omega (arith, ints)

abs-below : (x : ℕ) → x < 2 ^ 32 → unsigned_abs (signed x) ≤ 2 ^ 31
abs-below x b = elim (signed-word x b) [
  | inl w ↦ (let e : unsigned_abs (signed x) ≡ x = ap unsigned_abs w.0 in let s = w.1 in omega arith)
  | inr w ↦ (let e = abs-of (signed x) x b w.0 in let s = w.1 in omega arith)
]

-- the signed product is a number of 64 bits
cast-below : (z : ℤ) → unsigned_abs z ≤ 2 ^ 63 → cast_unsigned w64 z < 2 ^ 64
cast-below (pos n) h = omega arith
cast-below (negsuc n) h = omega arith

pub signed_product-below : (x y : ℕ) → x < 2 ^ 32 → y < 2 ^ 32 → signed_product x y < 2 ^ 64
signed_product-below x y p q =
    let e : unsigned_abs (signed x *ℤ signed y) ≡ unsigned_abs (signed x) * unsigned_abs (signed y) = unsigned_abs-mul (signed x) (signed y) in
    let b = mul-le (unsigned_abs (signed x)) (unsigned_abs (signed y)) (2 ^ 31) (2 ^ 31) (abs-below x p) (abs-below y q) in
    cast-below (signed x *ℤ signed y) (rw e (omega arith))

abs-aligned : (k x : ℕ) → k ≤ 32 → x < 2 ^ 32 → x % 2 ^ k ≡ 0 → unsigned_abs (signed x) % 2 ^ k ≡ 0
abs-aligned k x top b h = elim (signed-word x b) [
  | inl w ↦ (let e : unsigned_abs (signed x) ≡ x = ap unsigned_abs w.0 in rw e h)
  | inr w ↦ (let e : unsigned_abs (signed x) ≡ 2 ^ 32 - x = abs-of (signed x) x b w.0 in rw e (aligned-minus k (2 ^ 32) x (aligned-power k 32 top) h))
]

cast-aligned : (z : ℤ) (k : ℕ) → k ≤ 32 → unsigned_abs z ≤ 2 ^ 63 → unsigned_abs z % 2 ^ k ≡ 0 → low_word (cast_unsigned w64 z) % 2 ^ k ≡ 0
cast-aligned (pos n) k top b h = aligned-word k n top h
cast-aligned (negsuc n) k top b h = aligned-word k (2 ^ 64 - suc n) top (aligned-minus k (2 ^ 64) (suc n) (aligned-power k 64 (omega arith)) h)

small-smul : (j k x y : ℕ) → x < 2 ^ 32 → y < 2 ^ 32 → j ≤ 3 → k ≤ 3 → x % 2 ^ j ≡ 0 → y % 2 ^ k ≡ 0 → low_word (signed_product x y) % 2 ^ min 3 (j + k) ≡ 0
small-smul j k x y p q top last h g =
    let e : unsigned_abs (signed x *ℤ signed y) ≡ unsigned_abs (signed x) * unsigned_abs (signed y) = unsigned_abs-mul (signed x) (signed y) in
    let m = aligned-product j k (unsigned_abs (signed x)) (unsigned_abs (signed y)) (abs-aligned j x (omega arith) p h) (abs-aligned k y (omega arith) q g) in
    let l = aligned-fewer (min 3 (j + k)) (j + k) (unsigned_abs (signed x) * unsigned_abs (signed y)) (omega arith) m in
    let b = mul-le (unsigned_abs (signed x)) (unsigned_abs (signed y)) (2 ^ 31) (2 ^ 31) (abs-below x p) (abs-below y q) in
    cast-aligned (signed x *ℤ signed y) (min 3 (j + k)) (omega arith) (rw e (omega arith)) (rw e l)

pub aligned-smul : (j k x y : ℕ) → x < 2 ^ 32 → y < 2 ^ 32 → x % 2 ^ j ≡ 0 → y % 2 ^ k ≡ 0 → low_word (signed_product x y) % 2 ^ min 3 (j + k) ≡ 0
aligned-smul j k x y p q h g =
    let s = small-smul (min 3 j) (min 3 k) x y p q (omega arith) (omega arith) (aligned-fewer (min 3 j) j x (omega arith) h) (aligned-fewer (min 3 k) k y (omega arith) g) in
    let e : min 3 (min 3 j + min 3 k) ≡ min 3 (j + k) = omega arith in
    ap (λ i. low_word (signed_product x y) % 2 ^ i) (sym e) ∙ s

-- ---- shifts to the right

pub aligned-srl : (j k x : ℕ) → x % 2 ^ j ≡ 0 → x / 2 ^ k % 2 ^ (j - k) ≡ 0
aligned-srl j k x h =
    elim (cases_lt j k) [
      | inl small ↦ (let e : j - k ≡ 0 = omega arith in rw e (omega arith))
      | inr large ↦
          (let f : x % 2 ^ (j - k + k) / 2 ^ k ≡ x / 2 ^ k % 2 ^ (j - k) = field_of x (j - k) k in
          let e : j - k + k ≡ j = omega arith in
          sym f ∙ (ap (λ i. x % 2 ^ i / 2 ^ k) e ∙ (ap (λ i. i / 2 ^ k) h ∙ zero_over (2 ^ k))))
    ]

-- a quotient of what is left below a power: n less x, rounded down, is one less than the quotients' difference
below-quotient : (x p q n : ℕ) → 0 < p → x < q * p → n + suc x ≡ q * p → n / p + suc (x / p) ≡ q
below-quotient x p q n some less e =
    let s = shr_split-at x p in
    let r : x % p < p = rest-below x p some in
    let t : x / p < q = quotient-below x p q some less in
    let f : (q - suc (x / p)) * p + (p - suc (x % p)) ≡ n = first x p q n some s r t e in
    let g : n / p ≡ q - suc (x / p) = ap (λ m. m / p) (sym f) ∙ div-mul-add (q - suc (x / p)) p (p - suc (x % p)) (omega arith) in
    omega arith
  where
    shr_split-at : (x p : ℕ) → x / p * p + x % p ≡ x
    shr_split-at x p = div-add-mod' x p

    rest-below : (x p : ℕ) → 0 < p → x % p < p
    rest-below x p some = mod_below x p some

    quotient-below : (x p q : ℕ) → 0 < p → x < q * p → x / p < q
    quotient-below x p q some less = div_below x p q some less

    first : (x p q n : ℕ) → 0 < p → x / p * p + x % p ≡ x → x % p < p → x / p < q → n + suc x ≡ q * p → (q - suc (x / p)) * p + (p - suc (x % p)) ≡ n
    first x p q n some s r t e =
        let d : (q - suc (x / p)) * p ≡ q * p - suc (x / p) * p = sub-mul q (suc (x / p)) p in
        let m : suc (x / p) * p ≡ x / p * p + p = omega arith in
        let c : suc (x / p) * p ≤ q * p = mul-le (suc (x / p)) p q p t (omega arith) in
        omega arith

sra-natural : (j k x : ℕ) (z : ℤ) → z ≡ pos x → x % 2 ^ j ≡ 0 → cast_unsigned w32 (halved z k) % 2 ^ (j - k) ≡ 0
sra-natural j k x z e h = ap (λ z. cast_unsigned w32 (halved z k) % 2 ^ (j - k)) e ∙ aligned-srl j k x h

sra-negative : (j k x : ℕ) (z : ℤ) → x < 2 ^ 32 → 2 ^ 31 ≤ x → k < 32 → j ≤ 32 → (z +ℤ pos (2 ^ 32)) ≡ pos x → x % 2 ^ j ≡ 0 → cast_unsigned w32 (halved z k) % 2 ^ (j - k) ≡ 0
sra-negative j k x (pos n) b large top most e h = absurd (omega (arith, ints))
sra-negative j k x (negsuc n) b large top most e h =
    let s : 32 - k + k ≡ 32 = omega arith in
    let whole : 2 ^ (32 - k) * 2 ^ k ≡ 2 ^ 32 = sym (pow-add 2 (32 - k) k) ∙ ap (λ i. 2 ^ i) s in
    let rest : n + suc x ≡ 2 ^ 32 = omega (arith, ints) in
    let q = below-quotient x (2 ^ k) (2 ^ (32 - k)) n (pow_pos k) (omega arith) (rest ∙ sym whole) in
    let m : 2 ^ (32 - k) ≤ 2 ^ 32 = pow_mono {i = 32 - k} {j = 32} (omega arith) in
    let same : cast_unsigned w32 (halved (negsuc n) k) ≡ (2 ^ 32 - 2 ^ (32 - k)) + x / 2 ^ k = omega (arith, ints) in
    let high = aligned-minus (j - k) (2 ^ 32) (2 ^ (32 - k)) (aligned-power (j - k) 32 (omega arith)) (aligned-power (j - k) (32 - k) (omega arith)) in
    ap (λ i. i % 2 ^ (j - k)) same ∙ aligned-plus (j - k) (2 ^ 32 - 2 ^ (32 - k)) (x / 2 ^ k) high (aligned-srl j k x h)

pub aligned-sra : (j x y : ℕ) → x < 2 ^ 32 → x % 2 ^ j ≡ 0 → shifted_right_signed x y % 2 ^ (j - y % 32) ≡ 0
aligned-sra j x y p h = elim (signed-word x p) [
  | inl w ↦ sra-natural j (y % 32) x (signed x) w.0 h
  | inr w ↦ elim (cases_lt 32 j) [
    | inl over ↦ absurd (let e = none-left j x (omega arith) p h in let large = w.1 in omega arith)
    | inr most ↦ sra-negative j (y % 32) x (signed x) p w.1 (omega arith) most w.0 h
  ]
]

-- ---- known words

pub aligned-known : (w : ℕ) → w % 2 ^ alignment_of w ≡ 0
aligned-known w = grind (arith, nat_tests)
