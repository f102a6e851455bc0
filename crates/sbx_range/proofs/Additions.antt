-- Sums and differences lie in their ranges.
use Rattle.std.proofs.Common.{◌≡◌, ℕ, ◌^◌, ◌<◌, true, false, arith}
use Rattle.std.specs.Prelude.{pos, negsuc, ◌+ℤ◌, ◌-ℤ◌, ◌≤ℤ◌}
use Rattle.std.proofs.lemmas.Int.{ints}
use Rattle.v8_alu.specs.Results.{signed, is_signed_word, sum, difference}
use Rattle.sbx_image.specs.Range.{Range}
use Rattle.sbx_range.specs.Ranges.{InInterval}
use Rattle.sbx_range.specs.Rows.{least_alignment, range_add, range_sub, sums_fit, differences_fit}
use Rattle.sbx_range.proofs.Words.{signed-word, in_fit, both_true, is_signed_word-from, is_signed_word-says}

pub signed-sum : (x y : ℕ) → x < 2 ^ 32 → y < 2 ^ 32 → negsuc 2147483647 ≤ℤ (signed x +ℤ signed y) → (signed x +ℤ signed y) ≤ℤ pos 2147483647 → signed (sum x y false) ≡ signed x +ℤ signed y
signed-sum x y p q l h =
    let cx = signed-word x p in
    let cy = signed-word y q in
    let cz = signed-word (sum x y false) (omega arith) in
    grind (arith, ints)

pub signed-difference : (x y : ℕ) → x < 2 ^ 32 → y < 2 ^ 32 → negsuc 2147483647 ≤ℤ (signed x -ℤ signed y) → (signed x -ℤ signed y) ≤ℤ pos 2147483647 →
    signed (difference x y false) ≡ signed x -ℤ signed y
signed-difference x y p q l h =
    let cx = signed-word x p in
    let cy = signed-word y q in
    let cz = signed-word (difference x y false) (omega arith) in
    grind (arith, ints)

pub in_range_add : (a b : Range) (x y : ℕ) → x < 2 ^ 32 → y < 2 ^ 32 → InInterval a x → InInterval b y → InInterval (range_add a b) (sum x y false)
unfolding range_add
in_range_add a b x y p q s t =
    let low_a : a.lo ≤ℤ signed x = s.low in
    let high_a : signed x ≤ℤ a.hi = s.high in
    let low_b : b.lo ≤ℤ signed y = t.low in
    let high_b : signed y ≤ℤ b.hi = t.high in
    in_fit (a.lo +ℤ b.lo) (a.hi +ℤ b.hi) (signed x +ℤ signed y) (least_alignment a b) (sum x y false) (omega arith) (omega (arith, ints)) (omega (arith, ints)) (signed-sum x y p q)

pub in_range_sub : (a b : Range) (x y : ℕ) → x < 2 ^ 32 → y < 2 ^ 32 → InInterval a x → InInterval b y → InInterval (range_sub a b) (difference x y false)
unfolding range_sub
in_range_sub a b x y p q s t =
    let low_a : a.lo ≤ℤ signed x = s.low in
    let high_a : signed x ≤ℤ a.hi = s.high in
    let low_b : b.lo ≤ℤ signed y = t.low in
    let high_b : signed y ≤ℤ b.hi = t.high in
    in_fit (a.lo -ℤ b.hi) (a.hi -ℤ b.lo) (signed x -ℤ signed y) (least_alignment a b) (difference x y false) (omega arith) (omega (arith, ints)) (omega (arith, ints)) (signed-difference x y p q)

-- where all sums fit, the word's reading is the sum
pub exact-sum : (a b : Range) (x y : ℕ) → x < 2 ^ 32 → y < 2 ^ 32 → InInterval a x → InInterval b y → sums_fit a b ≡ true → signed (sum x y false) ≡ signed x +ℤ signed y
exact-sum a b x y p q s t fits =
    let both = both_true _ _ fits in
    let l = is_signed_word-says (a.lo +ℤ b.lo) both.0 in
    let h = is_signed_word-says (a.hi +ℤ b.hi) both.1 in
    let low_end : negsuc 2147483647 ≤ℤ (a.lo +ℤ b.lo) = l.0 in
    let high_end : (a.hi +ℤ b.hi) ≤ℤ pos 2147483647 = h.1 in
    let low_a : a.lo ≤ℤ signed x = s.low in
    let high_a : signed x ≤ℤ a.hi = s.high in
    let low_b : b.lo ≤ℤ signed y = t.low in
    let high_b : signed y ≤ℤ b.hi = t.high in
    signed-sum x y p q (omega (arith, ints)) (omega (arith, ints))

pub exact-difference : (a b : Range) (x y : ℕ) → x < 2 ^ 32 → y < 2 ^ 32 → InInterval a x → InInterval b y → differences_fit a b ≡ true → signed (difference x y false) ≡ signed x -ℤ signed y
exact-difference a b x y p q s t fits =
    let both = both_true _ _ fits in
    let l = is_signed_word-says (a.lo -ℤ b.hi) both.0 in
    let h = is_signed_word-says (a.hi -ℤ b.lo) both.1 in
    let low_end : negsuc 2147483647 ≤ℤ (a.lo -ℤ b.hi) = l.0 in
    let high_end : (a.hi -ℤ b.lo) ≤ℤ pos 2147483647 = h.1 in
    let low_a : a.lo ≤ℤ signed x = s.low in
    let high_a : signed x ≤ℤ a.hi = s.high in
    let low_b : b.lo ≤ℤ signed y = t.low in
    let high_b : signed y ≤ℤ b.hi = t.high in
    signed-difference x y p q (omega (arith, ints)) (omega (arith, ints))

-- and no overflow is told
pub sum-fits : (a b : Range) (x y : ℕ) → InInterval a x → InInterval b y → sums_fit a b ≡ true → is_signed_word (signed x +ℤ signed y +ℤ pos 0) ≡ true
sum-fits a b x y s t fits =
    let both = both_true _ _ fits in
    let l = is_signed_word-says (a.lo +ℤ b.lo) both.0 in
    let h = is_signed_word-says (a.hi +ℤ b.hi) both.1 in
    let low_end : negsuc 2147483647 ≤ℤ (a.lo +ℤ b.lo) = l.0 in
    let high_end : (a.hi +ℤ b.hi) ≤ℤ pos 2147483647 = h.1 in
    let low_a : a.lo ≤ℤ signed x = s.low in
    let high_a : signed x ≤ℤ a.hi = s.high in
    let low_b : b.lo ≤ℤ signed y = t.low in
    let high_b : signed y ≤ℤ b.hi = t.high in
    is_signed_word-from (signed x +ℤ signed y +ℤ pos 0) (omega (arith, ints)) (omega (arith, ints))

pub difference-fits : (a b : Range) (x y : ℕ) → InInterval a x → InInterval b y → differences_fit a b ≡ true → is_signed_word (signed x -ℤ signed y -ℤ pos 0) ≡ true
difference-fits a b x y s t fits =
    let both = both_true _ _ fits in
    let l = is_signed_word-says (a.lo -ℤ b.hi) both.0 in
    let h = is_signed_word-says (a.hi -ℤ b.lo) both.1 in
    let low_end : negsuc 2147483647 ≤ℤ (a.lo -ℤ b.hi) = l.0 in
    let high_end : (a.hi -ℤ b.lo) ≤ℤ pos 2147483647 = h.1 in
    let low_a : a.lo ≤ℤ signed x = s.low in
    let high_a : signed x ≤ℤ a.hi = s.high in
    let low_b : b.lo ≤ℤ signed y = t.low in
    let high_b : signed y ≤ℤ b.hi = t.high in
    is_signed_word-from (signed x -ℤ signed y -ℤ pos 0) (omega (arith, ints)) (omega (arith, ints))
