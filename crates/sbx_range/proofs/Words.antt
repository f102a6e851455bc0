-- Words and their signed readings, and the ranges that hold them.
use Rattle.std.proofs.Common.{◌≡◌, ℕ, ◌^◌, ◌<◌, ◌≤◌, Bool, true, false, refl, ap, ◌∙◌, arith, inl, inr, ◌⊎◌}
use Rattle.std.specs.Prelude.{◌&&◌, if◌then◌else◌, ℤ, pos, negsuc, ◌+ℤ◌, ◌≤ℤ◌}
use Rattle.std.specs.Int.{cast_unsigned, w32}
use Rattle.std.specs.Ordering.{int_eq}
use Rattle.std.proofs.lemmas.Bool.{cases_lt}
use Rattle.std.proofs.lemmas.Bool.Decides.{nat_tests, Decides-int_eq}
use Rattle.std.proofs.lemmas.Int.{ints, to_z-of_z, of_z-to_z}
use Rattle.v8_alu.specs.Results.{signed, is_signed_word}
use Rattle.sbx_image.specs.Range.{Range}
use Rattle.sbx_range.specs.Ranges.{InInterval, range, all, fit, is_natural, is_single, is_zero, word_of, known}

signed-large : (w : ℕ) → w < 2 ^ 32 → 2 ^ 31 ≤ w → (signed w +ℤ pos (2 ^ 32)) ≡ pos w
signed-large w h large = grind (arith, ints, nat_tests)

-- a word below 2 ^ 31 is its own reading, and the others are 2 ^ 32 above theirs
pub signed-word : (w : ℕ) → w < 2 ^ 32 → ((signed w ≡ pos w) × (w < 2 ^ 31)) ⊎ (((signed w +ℤ pos (2 ^ 32)) ≡ pos w) × (2 ^ 31 ≤ w))
signed-word w h = elim (cases_lt w (2 ^ 31)) [ inl small ↦ inl (omega (arith, ints), small) | inr large ↦ inr (signed-large w h large, large) ]

pub signed-low : (w : ℕ) → w < 2 ^ 32 → negsuc 2147483647 ≤ℤ signed w
signed-low w h = omega (arith, ints)

pub signed-high : (w : ℕ) → w < 2 ^ 32 → signed w ≤ℤ pos 2147483647
signed-high w h = omega (arith, ints)

pub signed-natural : (w : ℕ) → w < 2 ^ 31 → signed w ≡ pos w
signed-natural w h = omega (arith, ints)

-- the reading of a written number
pub signed-written : (z : ℤ) → negsuc 2147483647 ≤ℤ z → z ≤ℤ pos 2147483647 → signed (cast_unsigned w32 z) ≡ z
signed-written (pos n) l h = to_z-of_z w32 (pos n) (record { sfits = omega (arith, ints) })
signed-written (negsuc n) l h = to_z-of_z w32 (negsuc n) (record { sfits = omega (arith, ints) })

pub written-below : (z : ℤ) → negsuc 2147483647 ≤ℤ z → z ≤ℤ pos 2147483647 → cast_unsigned w32 z < 2 ^ 32
written-below (pos n) l h = omega (arith, ints)
written-below (negsuc n) l h = omega (arith, ints)

-- ---- tests

pub both_true : (p q : Bool) → (p && q) ≡ true → (p ≡ true) × (q ≡ true)
both_true true true h = (refl, refl)
both_true true false h = (refl, h)
both_true false q h = (h, absurd (cc))

-- what is true in each case of a test
pub by_test : (t : Bool) (P : Range → Type 0) (r s : Range) → (t ≡ true → P r) → (t ≡ false → P s) → P (if t then r else s)
by_test true P r s when_true when_false = when_true refl
by_test false P r s when_true when_false = when_false refl

pub is_signed_word-says : (z : ℤ) → is_signed_word z ≡ true → (negsuc 2147483647 ≤ℤ z) × (z ≤ℤ pos 2147483647)
is_signed_word-says (pos n) h = (omega (arith, ints), grind (arith, ints, nat_tests))
is_signed_word-says (negsuc n) h = (grind (arith, ints, nat_tests), omega (arith, ints))

pub is_signed_word-from : (z : ℤ) → negsuc 2147483647 ≤ℤ z → z ≤ℤ pos 2147483647 → is_signed_word z ≡ true
is_signed_word-from (pos n) l h = grind (arith, ints, nat_tests)
is_signed_word-from (negsuc n) l h = grind (arith, ints, nat_tests)

-- ---- ranges

pub in_all : (alignment w : ℕ) → w < 2 ^ 32 → InInterval (all alignment) w
in_all alignment w h = record { low = signed-low w h; high = signed-high w h }

-- What is between l and h, and is the reading of w where it is a signed word at all, lies in the range that fits.
pub in_fit : (l h z : ℤ) (alignment w : ℕ) → w < 2 ^ 32 → l ≤ℤ z → z ≤ℤ h
    → (negsuc 2147483647 ≤ℤ z → z ≤ℤ pos 2147483647 → signed w ≡ z) → InInterval (fit l h alignment) w
in_fit l h z alignment w bound low high is =
    by_test (is_signed_word l && is_signed_word h) (λ r. InInterval r w) (range l h alignment) (all alignment)
    (λ e.
    let both = both_true _ _ e in
    let l_fits = is_signed_word-says l both.0 in
    let h_fits = is_signed_word-says h both.1 in
    let low_end : negsuc 2147483647 ≤ℤ l = l_fits.0 in
    let high_end : h ≤ℤ pos 2147483647 = h_fits.1 in
    let same : signed w ≡ z = is (omega (arith, ints)) (omega (arith, ints)) in
    record { low = rw same low; high = rw same high })
    (λ _. in_all alignment w bound)

-- a word whose reading is at least 0
pub natural-word : (l : ℤ) (w : ℕ) → w < 2 ^ 32 → is_natural l ≡ true → l ≤ℤ signed w → w < 2 ^ 31
natural-word (pos n) w h t low = (let c = signed-word w h in grind (arith, ints))
natural-word (negsuc n) w h t low = absurd (cc)

pub is_zero-word : (a : Range) (x : ℕ) → x < 2 ^ 32 → is_zero a ≡ true → InInterval a x → x ≡ 0
is_zero-word a x p t s =
    let both = both_true (int_eq a.lo (pos 0)) (int_eq a.hi (pos 0)) t in
    let l : a.lo ≡ pos 0 = (Decides-int_eq a.lo (pos 0)).0 both.0 in
    let h : a.hi ≡ pos 0 = (Decides-int_eq a.hi (pos 0)).0 both.1 in
    let low : a.lo ≤ℤ signed x = s.low in
    let high : signed x ≤ℤ a.hi = s.high in
    let w = signed-word x p in
    grind (arith, ints)

-- the word of a range with one number
pub single-word : (b : Range) (y : ℕ) → y < 2 ^ 32 → is_single b ≡ true → InInterval b y → word_of b ≡ y
single-word b y q t s =
    let low : b.lo ≤ℤ signed y = s.low in
    let high : signed y ≤ℤ b.hi = s.high in
    let e : b.lo ≡ b.hi = (Decides-int_eq b.lo b.hi).0 t in
    let same : b.lo ≡ signed y = omega (arith, ints) in
    ap (cast_unsigned w32) same ∙ of_z-to_z w32 y q

le_self : (z : ℤ) → z ≤ℤ z
le_self z = omega (arith, ints)

pub in_known : (w : ℕ) → InInterval (known w) w
in_known w = record { low = le_self (signed w); high = le_self (signed w) }
