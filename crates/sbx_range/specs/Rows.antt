-- The table of ranges, a row a definition: what an operation makes of the ranges a and b of its operands.
use Rattle.std.specs.Prelude.{ℕ, ◌+◌, ◌-◌, ◌%◌, ◌^◌, Bool, ◌&&◌, ◌||◌, ◌==◌, ℤ, pos, negsuc, ◌+ℤ◌, ◌-ℤ◌, ◌*ℤ◌, int_lt}
use Rattle.std.specs.Prelude.{int_div, min, max, if◌then◌else◌}
use Rattle.std.specs.Int.{int_div_euclid, int_max, int_min, w32, leading_zeros}
use Rattle.v8_alu.specs.Results.{is_signed_word}
use Rattle.sbx_image.specs.Range.{Range}
use Rattle.sbx_range.specs.Ranges.{range, all, fit, is_single, word_of, is_zero, is_natural, both_natural}

abbrev pub least_alignment : Range → Range → ℕ
least_alignment a b = min a.alignment b.alignment

abbrev pub greatest_alignment : Range → Range → ℕ
greatest_alignment a b = max a.alignment b.alignment

-- ---- sums and differences

-- each sum of numbers of the two is a signed word
abbrev pub sums_fit : Range → Range → Bool
sums_fit a b = is_signed_word (a.lo +ℤ b.lo) && is_signed_word (a.hi +ℤ b.hi)

-- each difference of numbers of the two is a signed word
abbrev pub differences_fit : Range → Range → Bool
differences_fit a b = is_signed_word (a.lo -ℤ b.hi) && is_signed_word (a.hi -ℤ b.lo)

-- ADD and the tagged additions
unfoldable pub range_add : Range → Range → Range
range_add a b = fit (a.lo +ℤ b.lo) (a.hi +ℤ b.hi) (least_alignment a b)

-- SUB and the tagged subtractions
unfoldable pub range_sub : Range → Range → Range
range_sub a b = fit (a.lo -ℤ b.hi) (a.hi -ℤ b.lo) (least_alignment a b)

-- ---- logical operations

-- a number, or 0 for a negative one
abbrev pub natural_of : ℤ → ℕ
natural_of (pos n) = n
natural_of (negsuc n) = 0

-- 2 ^ k - 1, with the least k that puts 2 ^ k above n, which is a word
abbrev pub ones_above : ℕ → ℕ
ones_above n = 2 ^ (32 - leading_zeros w32 n) - 1

-- the same for the greater of two upper ends
abbrev pub ones_of : Range → Range → ℤ
ones_of a b = pos (ones_above (max (natural_of a.hi) (natural_of b.hi)))

-- An OR is at least each of its operands, and has no bit above theirs.
unfoldable pub range_or : Range → Range → Range
range_or a b =
    if is_zero a then b
    else (if is_zero b then a
    else (if both_natural a b then range (int_max a.lo b.lo) (ones_of a b) (least_alignment a b)
    else all (least_alignment a b)))

unfoldable pub range_xor : Range → Range → Range
range_xor a b =
    if both_natural a b then range (pos 0) (ones_of a b) (least_alignment a b)
    else all (least_alignment a b)

-- An AND is at most each of its operands.
unfoldable pub range_and : Range → Range → Range
range_and a b =
    if both_natural a b then range (pos 0) (int_min a.hi b.hi) (greatest_alignment a b)
    else (if is_natural a.lo then range (pos 0) a.hi (greatest_alignment a b)
    else (if is_natural b.lo then range (pos 0) b.hi (greatest_alignment a b)
    else all (greatest_alignment a b)))

unfoldable pub range_andn : Range → Range → Range
range_andn a b = if is_natural a.lo then range (pos 0) a.hi a.alignment else all a.alignment

-- ---- shifts

-- by how many bits, where the count is one number
abbrev pub count_of : Range → ℕ
count_of b = word_of b % 32

unfoldable pub range_sll : Range → Range → Range
range_sll a b =
    if is_single b then fit (a.lo *ℤ pos (2 ^ count_of b)) (a.hi *ℤ pos (2 ^ count_of b))
    (min 3 (a.alignment + count_of b))
    else all a.alignment

-- a number divided by 2 ^ k, rounded down
abbrev pub halved : ℤ → ℕ → ℤ
halved z k = int_div_euclid z (pos (2 ^ k))

abbrev pub halved_range : Range → ℕ → Range
halved_range a k = range (halved a.lo k) (halved a.hi k) (a.alignment - k)

-- shifts to the right by a count that isn't known
abbrev pub right_else : Range → Range
right_else a = if is_natural a.lo then range (pos 0) a.hi 0 else all 0

unfoldable pub range_srl : Range → Range → Range
range_srl a b =
    if is_single b then
    (if is_natural a.lo || count_of b == 0 then halved_range a (count_of b)
    else fit (pos 0) (pos (2 ^ (32 - count_of b) - 1)) (a.alignment - count_of b))
    else right_else a

unfoldable pub range_sra : Range → Range → Range
range_sra a b = if is_single b then halved_range a (count_of b) else right_else a

-- ---- products and quotients

unfoldable pub least_of : ℤ → ℤ → ℤ → ℤ → ℤ
least_of p q r s = int_min (int_min p q) (int_min r s)

unfoldable pub greatest_of : ℤ → ℤ → ℤ → ℤ → ℤ
greatest_of p q r s = int_max (int_max p q) (int_max r s)

-- of the four products of an end of the one and an end of the other
unfoldable pub least_product : Range → Range → ℤ
least_product a b = least_of (a.lo *ℤ b.lo) (a.lo *ℤ b.hi) (a.hi *ℤ b.lo) (a.hi *ℤ b.hi)

unfoldable pub greatest_product : Range → Range → ℤ
greatest_product a b = greatest_of (a.lo *ℤ b.lo) (a.lo *ℤ b.hi) (a.hi *ℤ b.lo) (a.hi *ℤ b.hi)

abbrev pub product_alignment : Range → Range → ℕ
product_alignment a b = min 3 (a.alignment + b.alignment)

unfoldable pub range_smul : Range → Range → Range
range_smul a b = fit (least_product a b) (greatest_product a b) (product_alignment a b)

unfoldable pub range_umul : Range → Range → Range
range_umul a b =
    if both_natural a b then fit (a.lo *ℤ b.lo) (a.hi *ℤ b.hi) (product_alignment a b)
    else all (product_alignment a b)

-- Y is 0, the dividend's word is not negative, and the divisor is positive; of its ends both, since a range may be
-- empty
abbrev pub divides_naturals : Range → Range → Range → Bool
divides_naturals y a b = (is_zero y && is_natural a.lo) && (int_lt (pos 0) b.lo && int_lt (pos 0) b.hi)

-- no number of a divisor's range is 0
abbrev pub excludes_zero : Range → Bool
excludes_zero b = int_lt (pos 0) b.lo || int_lt b.hi (pos 0)

-- UDIV and SDIV of the word a below Y
unfoldable pub range_divide : Range → Range → Range → Range
range_divide y a b =
    if divides_naturals y a b then range (int_div a.lo b.hi) (int_div a.hi b.lo) 0
    else all 0

-- ---- loads of bytes and halves

abbrev pub unsigned_byte : Range
unsigned_byte = range (pos 0) (pos 255) 0

abbrev pub unsigned_half : Range
unsigned_half = range (pos 0) (pos 65535) 0

abbrev pub signed_byte : Range
signed_byte = range (negsuc 127) (pos 127) 0

abbrev pub signed_half : Range
signed_half = range (negsuc 32767) (pos 32767) 0

-- a byte, or FFFFFFFF at the end of input
abbrev pub byte_or_end : Range
byte_or_end = range (negsuc 0) (pos 255) 0
