-- The condition codes of words as comparisons and as bits, and the multiply step by masks and shifts.
use Rattle.std.proofs.Common.{◌≡◌, ℕ, zero, suc, ◌+◌, ◌-◌, ◌*◌, ◌/◌, ◌%◌, ◌^◌, ◌<◌, ◌≤◌, Bool, true, false, refl, sym, ap, ◌∙◌, arith, rules, unsigned_abs, FitsSigned, ℤ}
use Rattle.std.specs.Prelude.{not, nat_lt, nat_le, bit_and, bit_or, bit_xor, ◌+ℤ◌, ◌-ℤ◌, ◌*ℤ◌, pos, negsuc, ◌==◌, ◌||◌, if◌then◌else◌, min, max}
use Rattle.std.specs.Int.{bit_at, w32, cast_unsigned, int_rem_euclid, int_wrap, w64}
use Rattle.std.specs.Int.Bits.{xor_assoc}
use Rattle.std.proofs.lemmas.Int.{fits_signed_mul, of_z-to_z, wrapping_mul-bits}
use Rattle.std.proofs.lemmas.Grind.{common_steps}
use Rattle.std.proofs.lemmas.Bool.Decides.{nat_tests}
use Rattle.std.proofs.lemmas.Nat.Bits.{bit_at_and, bit_at_or, bit_at_xor, same_from_bits_below, bit_at_ones, bit_at_not, bit_at-lt}
use Rattle.std.proofs.lemmas.Nat.{and_comm, and_le_l, and_mask, le_or_l, le_or_r, or_lt, or_mod, or_shifted, xor_lt}
use Rattle.v8_word.specs.Conditions.{differ}
use Rattle.v8_alu.specs.Results.{difference, from_flag, is_signed_word, is_tagged, low_word, signed, signed_product, sum}
use Rattle.v8_alu.specs.Outcomes.{complement}

-- ---- comparisons

pub negative : (r : ℕ) → r < 2 ^ 32 → from_flag (nat_lt ((r + 2 ^ 31) % 2 ^ 32) ((0 + 2 ^ 31) % 2 ^ 32)) ≡ from_flag (nat_le (2 ^ 31) r)
negative r p = grind (arith, nat_tests, common_steps)

pub sum_overflow : (a b : ℕ) → a < 2 ^ 32 → b < 2 ^ 32 →
    bit_xor (from_flag (nat_lt ((sum a b false + 2 ^ 31) % 2 ^ 32) ((a + 2 ^ 31) % 2 ^ 32))) (from_flag (nat_lt ((b + 2 ^ 31) % 2 ^ 32) ((0 + 2 ^ 31) % 2 ^ 32)))
    ≡ from_flag (not (is_signed_word (signed a +ℤ signed b +ℤ pos 0)))
sum_overflow a b p q = grind (arith, nat_tests, common_steps)

pub sum_carry : (a b : ℕ) → a < 2 ^ 32 → b < 2 ^ 32 → from_flag (nat_lt (sum a b false) a) ≡ from_flag (nat_le (2 ^ 32) (a + b + from_flag false))
sum_carry a b p q = grind (arith, nat_tests, common_steps)

pub difference_overflow : (a b : ℕ) → a < 2 ^ 32 → b < 2 ^ 32 →
    bit_xor (from_flag (nat_le (2 ^ 31) (difference a b false))) (from_flag (nat_lt ((a + 2 ^ 31) % 2 ^ 32) ((b + 2 ^ 31) % 2 ^ 32)))
    ≡ from_flag (not (is_signed_word (signed a -ℤ signed b -ℤ pos 0)))
difference_overflow a b p q = grind (arith, nat_tests, common_steps)

pub borrow : (a b : ℕ) → from_flag (nat_lt a b) ≡ from_flag (nat_lt a (b + from_flag false))
borrow a b = grind (arith, nat_tests)

-- ---- the highest bit

abbrev pub top : ℕ → ℕ
top x = x / 2 ^ 31

top_bit : (x : ℕ) → x < 2 ^ 32 → top x ≡ bit_at x 31
top_bit x p = omega arith

top_and : (x y : ℕ) → x < 2 ^ 32 → y < 2 ^ 32 → top (bit_and x y) ≡ min (top x) (top y)
top_and x y p q =
    let l = and_le_l x y in
    let z : bit_and x y < 2 ^ 32 = omega arith in
    top_bit (bit_and x y) z ∙ bit_at_and x y 31 ∙ ap (λ t. min t (bit_at y 31)) (sym (top_bit x p)) ∙ ap (min (top x)) (sym (top_bit y q))

top_or : (x y : ℕ) → x < 2 ^ 32 → y < 2 ^ 32 → top (bit_or x y) ≡ max (top x) (top y)
top_or x y p q =
    let z : bit_or x y < 2 ^ 32 = or_lt 32 x y p q in
    top_bit (bit_or x y) z ∙ bit_at_or x y 31 ∙ ap (λ t. max t (bit_at y 31)) (sym (top_bit x p)) ∙ ap (max (top x)) (sym (top_bit y q))

top_xor : (x y : ℕ) → x < 2 ^ 32 → y < 2 ^ 32 → top (bit_xor x y) ≡ (top x + top y) % 2
top_xor x y p q =
    let z : bit_xor x y < 2 ^ 32 = xor_lt 32 x y p q in
    top_bit (bit_xor x y) z ∙ bit_at_xor x y 31 ∙ ap (λ t. (t + bit_at y 31) % 2) (sym (top_bit x p)) ∙ ap (λ t. (top x + t) % 2) (sym (top_bit y q))

sum_word : (a b : ℕ) (c : Bool) → sum a b c < 2 ^ 32
sum_word a b c = omega arith

difference_word : (a b : ℕ) (c : Bool) → difference a b c < 2 ^ 32
difference_word a b c = omega arith

complement_word : (a : ℕ) → complement a < 2 ^ 32
complement_word a = omega arith

and_word : (a b : ℕ) → a < 2 ^ 32 → bit_and a b < 2 ^ 32
and_word a b p = let e = and_le_l a b in omega arith

-- ---- sums and differences with a carry

sumx_by_tops : (a b : ℕ) (c : Bool) → a < 2 ^ 32 → b < 2 ^ 32 →
    min ((top a + top (sum a b c)) % 2) ((top b + top (sum a b c)) % 2) ≡ from_flag (not (is_signed_word (signed a +ℤ signed b +ℤ pos (from_flag c))))
sumx_by_tops a b true p q = grind (arith, nat_tests, common_steps)
sumx_by_tops a b false p q = grind (arith, nat_tests, common_steps)

pub sumx_overflow : (a b : ℕ) (c : Bool) → a < 2 ^ 32 → b < 2 ^ 32 →
    top (bit_and (bit_xor a (sum a b c)) (bit_xor b (sum a b c))) ≡ from_flag (not (is_signed_word (signed a +ℤ signed b +ℤ pos (from_flag c))))
sumx_overflow a b c p q =
    let r = sum a b c in
    let w : r < 2 ^ 32 = sum_word a b c in
    top_and (bit_xor a r) (bit_xor b r) (xor_lt 32 a r p w) (xor_lt 32 b r q w)
    ∙ ap (λ t. min t (top (bit_xor b r))) (top_xor a r p w) ∙ ap (min ((top a + top r) % 2)) (top_xor b r q w)
    ∙ sumx_by_tops a b c p q

-- what both of two values have in their highest bit, or one of them and a third
abbrev pub majority : ℕ → ℕ → ℕ → ℕ
majority a b t = bit_or (bit_and a b) (bit_and (bit_or a b) t)

majority_top : (a b t : ℕ) → a < 2 ^ 32 → b < 2 ^ 32 → t < 2 ^ 32 → top (majority a b t) ≡ max (min (top a) (top b)) (min (max (top a) (top b)) (top t))
majority_top a b t p q w =
    let o : bit_or a b < 2 ^ 32 = or_lt 32 a b p q in
    top_or (bit_and a b) (bit_and (bit_or a b) t) (and_word a b p) (and_word (bit_or a b) t o)
    ∙ ap (λ x. max x (top (bit_and (bit_or a b) t))) (top_and a b p q)
    ∙ ap (max (min (top a) (top b))) (top_and (bit_or a b) t o w ∙ ap (λ x. min x (top t)) (top_or a b p q))

top_complement : (a : ℕ) → a < 2 ^ 32 → top (complement a) ≡ 1 - top a
top_complement a p = omega arith

sumx_carry_tops : (a b : ℕ) (c : Bool) → a < 2 ^ 32 → b < 2 ^ 32 →
    max (min (top a) (top b)) (min (max (top a) (top b)) (1 - top (sum a b c))) ≡ from_flag (nat_le (2 ^ 32) (a + b + from_flag c))
sumx_carry_tops a b true p q = grind (arith, nat_tests, common_steps)
sumx_carry_tops a b false p q = grind (arith, nat_tests, common_steps)

pub sumx_carry : (a b : ℕ) (c : Bool) → a < 2 ^ 32 → b < 2 ^ 32 →
    top (majority a b (complement (sum a b c))) ≡ from_flag (nat_le (2 ^ 32) (a + b + from_flag c))
sumx_carry a b c p q =
    majority_top a b (complement (sum a b c)) p q (complement_word (sum a b c))
    ∙ ap (λ t. max (min (top a) (top b)) (min (max (top a) (top b)) t)) (top_complement (sum a b c) (sum_word a b c))
    ∙ sumx_carry_tops a b c p q

differencex_by_tops : (a b : ℕ) (c : Bool) → a < 2 ^ 32 → b < 2 ^ 32 →
    min ((top a + top b) % 2) ((top a + top (difference a b c)) % 2) ≡ from_flag (not (is_signed_word (signed a -ℤ signed b -ℤ pos (from_flag c))))
differencex_by_tops a b true p q = grind (arith, nat_tests, common_steps)
differencex_by_tops a b false p q = grind (arith, nat_tests, common_steps)

pub differencex_overflow : (a b : ℕ) (c : Bool) → a < 2 ^ 32 → b < 2 ^ 32 →
    top (bit_and (bit_xor a b) (bit_xor a (difference a b c))) ≡ from_flag (not (is_signed_word (signed a -ℤ signed b -ℤ pos (from_flag c))))
differencex_overflow a b c p q =
    let r = difference a b c in
    let w : r < 2 ^ 32 = difference_word a b c in
    top_and (bit_xor a b) (bit_xor a r) (xor_lt 32 a b p q) (xor_lt 32 a r p w)
    ∙ ap (λ t. min t (top (bit_xor a r))) (top_xor a b p q) ∙ ap (min ((top a + top b) % 2)) (top_xor a r p w)
    ∙ differencex_by_tops a b c p q

borrow_tops : (a b : ℕ) (c : Bool) → a < 2 ^ 32 → b < 2 ^ 32 →
    max (min (1 - top a) (top b)) (min (max (1 - top a) (top b)) (top (difference a b c))) ≡ from_flag (nat_lt a (b + from_flag c))
borrow_tops a b true p q = grind (arith, nat_tests, common_steps)
borrow_tops a b false p q = grind (arith, nat_tests, common_steps)

pub differencex_borrow : (a b : ℕ) (c : Bool) → a < 2 ^ 32 → b < 2 ^ 32 →
    top (majority (complement a) b (difference a b c)) ≡ from_flag (nat_lt a (b + from_flag c))
differencex_borrow a b c p q =
    majority_top (complement a) b (difference a b c) (complement_word a) q (difference_word a b c)
    ∙ ap (λ t. max (min t (top b)) (min (max t (top b)) (top (difference a b c)))) (top_complement a p)
    ∙ borrow_tops a b c p q

-- ---- complements, tags and flags

ones_at : (a i : ℕ) → a < 2 ^ 32 → i < 32 → bit_at (complement a) i ≡ 1 - bit_at a i
ones_at a i p less = bit_at_not w32 a i p less

turned_at : (a i : ℕ) → bit_at a i < 2 → (bit_at a i + 1) % 2 ≡ 1 - bit_at a i
turned_at a i p = omega arith

pub turned : (a : ℕ) → a < 2 ^ 32 → bit_xor a 0xFFFFFFFF ≡ complement a
turned a p = same_from_bits_below 32 (bit_xor a 0xFFFFFFFF) (complement a) (xor_lt 32 a 0xFFFFFFFF p (omega arith)) (complement_word a)
    (λ i less. bit_at_xor a 0xFFFFFFFF i ∙ ap (λ t. (bit_at a i + t) % 2) (bit_at_ones 32 i less) ∙ turned_at a i (bit_at-lt a i) ∙ sym (ones_at a i p less))

pub turned_differing : (a b : ℕ) → a < 2 ^ 32 → b < 2 ^ 32 → bit_xor a (complement b) ≡ complement (bit_xor a b)
turned_differing a b p q = ap (bit_xor a) (sym (turned b q)) ∙ sym (xor_assoc a b 0xFFFFFFFF) ∙ turned (bit_xor a b) (xor_lt 32 a b p q)

pub either_flag : (p q : Bool) → bit_or (from_flag p) (from_flag q) ≡ from_flag (p || q)
either_flag true true = refl
either_flag true false = refl
either_flag false true = refl
either_flag false false = refl

pub differing_flag : (p q : Bool) → bit_xor (from_flag p) (from_flag q) ≡ from_flag (differ p q)
differing_flag true true = refl
differing_flag true false = refl
differing_flag false true = refl
differing_flag false false = refl

pub turned_flag : (p : Bool) → bit_xor (from_flag p) 1 ≡ from_flag (not p)
turned_flag true = refl
turned_flag false = refl

zero_or : (x y : ℕ) → bit_or x y ≡ 0 → (x ≡ 0) × (y ≡ 0)
zero_or x y e = let l = le_or_l x y in let r = le_or_r x y in (omega (arith, l, e), omega (arith, r, e))

is_none : (n : ℕ) → n ≡ 0 → (n == 0) ≡ true
is_none n e = grind (arith, nat_tests)

none_is : (n : ℕ) → (n == 0) ≡ true → n ≡ 0
none_is n e = grind (arith, nat_tests)

by_tags : (n x y : ℕ) → x < 4 → y < 4 → n ≡ bit_or x y → bit_xor (from_flag (n == 0)) 1 ≡ from_flag (not (x == 0) || not (y == 0))
by_tags n x y p q e = turned_flag (n == 0) ∙ ap from_flag (by_test (n == 0) (x == 0) (y == 0) refl refl refl)
  where
    by_test : (t u v : Bool) → (n == 0) ≡ t → (x == 0) ≡ u → (y == 0) ≡ v → not t ≡ (not u || not v)
    by_test true true true f g h = refl
    by_test true false v f g h = absurd (let z = (zero_or x y (sym e ∙ none_is n f)).0 in let w = sym g ∙ is_none x z in cc)
    by_test true true false f g h = absurd (let z = (zero_or x y (sym e ∙ none_is n f)).1 in let w = sym h ∙ is_none y z in cc)
    by_test false true true f g h = absurd (let z : bit_or x y ≡ 0 = ap (λ t. bit_or t y) (none_is x g) ∙ ap (bit_or 0) (none_is y h) in let w = sym f ∙ is_none n (e ∙ z) in cc)
    by_test false false v f g h = refl
    by_test false true false f g h = refl

pub tags : (a b : ℕ) → bit_xor (from_flag (bit_and (bit_or a b) 3 == 0)) 1 ≡ from_flag (is_tagged a b)
tags a b =
    let m = and_mask (bit_or a b) 2 in
    let o = or_mod a b 2 in
    by_tags (bit_and (bit_or a b) 3) (a % 4) (b % 4) (omega arith) (omega arith) (m ∙ o)

-- ---- the multiply step

low_bit : (b : ℕ) → b < 2 ^ 32 → bit_and b (2 ^ 32 - 1) ≡ b
low_bit b p = and_mask b 32 ∙ omega arith

by_low : (b t : ℕ) → b < 2 ^ 32 → t < 2 → bit_and b (difference 0 t false) ≡ (if t == 1 then b else 0)
by_low b zero p q = and_comm b 0
by_low b (suc zero) p q = low_bit b p
by_low b (suc (suc t)) p q = absurd (omega arith)

pub step_first : (d : Bool) (a : ℕ) → a < 2 ^ 32 → bit_or (from_flag d * 2 ^ 31 % 2 ^ 32) (a / 2) ≡ from_flag d * 2 ^ 31 + a / 2
step_first true a p = or_shifted 1 31 (a / 2) (omega arith)
step_first false a p = or_shifted 0 31 (a / 2) (omega arith)

pub step_multiplier : (a y : ℕ) → y < 2 ^ 32 → bit_or (a * 2 ^ 31 % 2 ^ 32) (y / 2) ≡ a % 2 * 2 ^ 31 + y / 2
step_multiplier a y p =
    let e : a * 2 ^ 31 % 2 ^ 32 ≡ a % 2 * 2 ^ 31 = omega arith in
    ap (λ t. bit_or t (y / 2)) e ∙ or_shifted (a % 2) 31 (y / 2) (omega arith)

pub step_second : (b y : ℕ) → b < 2 ^ 32 → bit_and b (difference 0 (bit_and y 1) false) ≡ (if y % 2 == 1 then b else 0)
step_second b y p = ap (λ t. bit_and b (difference 0 t false)) (and_mask y 1) ∙ by_low b (y % 2) p (omega arith)

-- ---- the low word of a product has no sign

wrap_low : (z : ℤ) → FitsSigned w64 z → unsigned_abs (int_rem_euclid z (pos (2 ^ 32))) ≡ cast_unsigned w64 z % 2 ^ 32
wrap_low (pos n) f = let low : n < 2 ^ 63 = grind (arith, f) in omega (arith, low)
wrap_low (negsuc n) f = let low : n < 2 ^ 63 = grind (arith, f) in omega (arith, low)

wrap_unsigned : (z : ℤ) → cast_unsigned w32 (int_wrap w32 z) ≡ unsigned_abs (int_rem_euclid z (pos (2 ^ 32)))
unfolding int_wrap
wrap_unsigned z = of_z-to_z w32 (unsigned_abs (int_rem_euclid z (pos (2 ^ 32)))) (rem_small z)
  where
    rem_small : (z : ℤ) → unsigned_abs (int_rem_euclid z (pos (2 ^ 32))) < 2 ^ 32
    rem_small (pos n) = omega arith
    rem_small (negsuc n) = omega arith

pub low_product : (a b : ℕ) → a < 2 ^ 32 → b < 2 ^ 32 → low_word (a * b) ≡ low_word (signed_product a b)
low_product a b p q =
    sym (of_z-to_z w32 (a * b % 2 ^ 32) (omega arith)) ∙ ap (cast_unsigned w32) (wrapping_mul-bits w32 a b p q)
    ∙ wrap_unsigned (signed a *ℤ signed b) ∙ wrap_low (signed a *ℤ signed b) (product_fits a b p q)
  where
    small_abs : (a : ℕ) → a < 2 ^ 32 → unsigned_abs (signed a) ≤ 2 ^ 31
    small_abs a p = search rules

    product_fits : (a b : ℕ) → a < 2 ^ 32 → b < 2 ^ 32 → FitsSigned w64 (signed a *ℤ signed b)
    product_fits a b p q = fits_signed_mul w64 (signed a) (signed b) (2 ^ 31) (2 ^ 31) (small_abs a p) (small_abs b q) (omega arith)
