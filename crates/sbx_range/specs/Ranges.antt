-- Ranges: sets of words that lie between two signed numbers and are multiples of a power of two.
-- The ends are whole numbers and nothing says that they are signed words, or that the lower one is not above the other:
-- so every definition here is total.
use Rattle.std.specs.Prelude.{ℕ, ◌%◌, ◌^◌, ◌≡◌, Bool, not, ◌&&◌, ◌==◌, ℤ, pos, negsuc, ◌≤ℤ◌, int_lt, nat_le}
use Rattle.std.specs.Prelude.{if◌then◌else◌}
use Rattle.std.specs.Int.{cast_unsigned, w32}
use Rattle.std.specs.Ordering.{int_eq}
use Rattle.v8_alu.specs.Results.{signed, is_signed_word}
use Rattle.sbx_image.specs.Range.{Range}

abbrev pub range : ℤ → ℤ → ℕ → Range
range lo hi alignment = record { lo = lo; hi = hi; alignment = alignment }

-- a word that, read as signed, lies from the one end to the other
pub record InInterval (r : Range) (w : ℕ) : Type 0 where
  pub low : r.lo ≤ℤ signed w
  pub high : signed w ≤ℤ r.hi

-- a multiple of 2 to this power; the signed and the unsigned reading of a word agree on it
abbrev pub IsAligned : ℕ → ℕ → Type 0
IsAligned alignment w = w % 2 ^ alignment ≡ 0

-- the words of a range
pub record InRange (r : Range) (w : ℕ) : Type 0 where
  pub interval : InInterval r w
  pub aligned : IsAligned r.alignment w

-- all words, of this alignment
abbrev pub all : ℕ → Range
all alignment = range (negsuc 2147483647) (pos 2147483647) alignment

-- the numbers between these where both are signed words; else the result may have wrapped, and is any word
abbrev pub fit : ℤ → ℤ → ℕ → Range
fit lo hi alignment = if is_signed_word lo && is_signed_word hi then range lo hi alignment else all alignment

-- a range with one number
abbrev pub is_single : Range → Bool
is_single r = int_eq r.lo r.hi

-- the word of a range with one number
abbrev pub word_of : Range → ℕ
word_of r = cast_unsigned w32 r.lo

abbrev pub is_zero : Range → Bool
is_zero r = int_eq r.lo (pos 0) && int_eq r.hi (pos 0)

-- the greatest power of two that divides a word, up to 8, as its exponent
abbrev pub alignment_of : ℕ → ℕ
alignment_of w = if w % 8 == 0 then 3 else (if w % 4 == 0 then 2 else (if w % 2 == 0 then 1 else 0))

-- the range of a known word
abbrev pub known : ℕ → Range
known w = range (signed w) (signed w) (alignment_of w)

-- at least 0
abbrev pub is_natural : ℤ → Bool
is_natural z = not (int_lt z (pos 0))

abbrev pub both_natural : Range → Range → Bool
both_natural a b = is_natural a.lo && is_natural b.lo

-- whether one range lies within another
abbrev pub is_within : Range → Range → Bool
is_within inner outer =
    not (int_lt inner.lo outer.lo) && not (int_lt outer.hi inner.hi) && nat_le outer.alignment inner.alignment

abbrev pub is_empty : Range → Bool
is_empty r = int_lt r.hi r.lo
