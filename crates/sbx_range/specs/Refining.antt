-- What a condition says of the ranges of two words that were compared, or of the one whose signs the codes are.
-- A side that is left with no number has its lower end above the upper one.
use Rattle.std.specs.Prelude.{ℕ, ℤ, pos, negsuc, ◌+ℤ◌, ◌-ℤ◌, Option, Some, None, if◌then◌else◌}
use Rattle.std.specs.Int.{int_max, int_min}
use Rattle.std.specs.Ordering.{int_eq}
use Rattle.v8_alu.specs.Cond.{Cond}
use Rattle.v8_alu.specs.Cond.TheVariants.{Never, Equal, LessOrEqual, Less, LessOrEqualUnsigned, CarrySet, Negative}
use Rattle.v8_alu.specs.Cond.TheVariants.{OverflowSet, Always, NotEqual, Greater, GreaterOrEqual, GreaterUnsigned}
use Rattle.v8_alu.specs.Cond.TheVariants.{CarryClear, Positive, OverflowClear}
use Rattle.sbx_image.specs.Range.{Range}
use Rattle.sbx_range.specs.declared.refining.Pair.{Pair}
use Rattle.sbx_range.specs.Ranges.{range, known, is_single, is_natural, both_natural, is_empty}
use Rattle.sbx_range.specs.Rows.{greatest_alignment}

abbrev pub pair : Range → Range → Pair
pair a b = record { left = a; right = b }

abbrev pub turned : Pair → Pair
turned p = pair p.right p.left

-- the part that two ranges share
unfoldable pub common : Range → Range → Range
common a b = range (int_max a.lo b.lo) (int_min a.hi b.hi) (greatest_alignment a b)

-- a lower or an upper end, one further in where it is this number
abbrev pub raised : ℤ → ℤ → ℤ
raised lo z = if int_eq lo z then lo +ℤ pos 1 else lo

abbrev pub lowered : ℤ → ℤ → ℤ
lowered hi z = if int_eq hi z then hi -ℤ pos 1 else hi

-- a without the one number of b, where b has one and it is an end of a
unfoldable pub without : Range → Range → Range
without a b = if is_single b then range (raised a.lo b.lo) (lowered a.hi b.lo) a.alignment else a

-- the left at most the right less d
unfoldable pub left_below : ℕ → Range → Range → Range
left_below d a b = range a.lo (int_min a.hi (b.hi -ℤ pos d)) a.alignment

unfoldable pub right_below : ℕ → Range → Range → Range
right_below d a b = range (int_max b.lo (a.lo +ℤ pos d)) b.hi b.alignment

unfoldable pub below : ℕ → Range → Range → Pair
below d a b = pair (left_below d a b) (right_below d a b)

abbrev pub from_zero : Range → Range
from_zero a = range (int_max a.lo (pos 0)) a.hi a.alignment

-- Below an unsigned word that is not negative as a signed one there are just such words: the left is at least 0 first.
unfoldable pub below_unsigned : ℕ → Range → Range → Pair
below_unsigned d a b = if is_natural b.lo then below d (from_zero a) b else pair a b

-- Above it there are negative ones too: both must be at least 0.
unfoldable pub above_unsigned : ℕ → Range → Range → Pair
above_unsigned d a b = if both_natural a b then turned (below d b a) else pair a b

-- the ranges of x and y where the condition holds of the codes of x less y
unfoldable pub narrowed : Cond → Range → Range → Pair
narrowed Equal a b = pair (common a b) (common a b)
narrowed NotEqual a b = pair (without a b) (without b a)
narrowed Less a b = below 1 a b
narrowed LessOrEqual a b = below 0 a b
narrowed Greater a b = turned (below 1 b a)
narrowed GreaterOrEqual a b = turned (below 0 b a)
narrowed CarrySet a b = below_unsigned 1 a b
narrowed LessOrEqualUnsigned a b = below_unsigned 0 a b
narrowed CarryClear a b = above_unsigned 0 a b
narrowed GreaterUnsigned a b = above_unsigned 1 a b
narrowed _ a b = pair a b

-- the range of a word where the condition holds of codes whose N and Z are the word's
unfoldable pub narrowed_by_value : Cond → Range → Range
narrowed_by_value Equal a = common a (known 0)
narrowed_by_value NotEqual a = without a (known 0)
narrowed_by_value Negative a = range a.lo (int_min a.hi (negsuc 0)) a.alignment
narrowed_by_value Positive a = from_zero a
narrowed_by_value _ a = a

-- a range, where it isn't empty
unfoldable pub some_range : Range → Option Range
some_range r = if is_empty r then None else Some r

unfoldable pub both_of : Option Range → Option Range → Option Pair
both_of (Some a) (Some b) = Some (pair a b)
both_of (Some a) None = None
both_of None b = None

-- two ranges, where neither is empty
unfoldable pub some_pair : Pair → Option Pair
some_pair p = both_of (some_range p.left) (some_range p.right)

unfoldable pub refine : Cond → Range → Range → Option Pair
refine cond a b = some_pair (narrowed cond a b)

unfoldable pub refine_by_value : Cond → Range → Option Range
refine_by_value cond a = some_range (narrowed_by_value cond a)

-- the condition of the other edge
abbrev pub opposite : Cond → Cond
opposite Never = Always
opposite Equal = NotEqual
opposite LessOrEqual = Greater
opposite Less = GreaterOrEqual
opposite LessOrEqualUnsigned = GreaterUnsigned
opposite CarrySet = CarryClear
opposite Negative = Positive
opposite OverflowSet = OverflowClear
opposite Always = Never
opposite NotEqual = Equal
opposite Greater = LessOrEqual
opposite GreaterOrEqual = Less
opposite GreaterUnsigned = LessOrEqualUnsigned
opposite CarryClear = CarrySet
opposite Positive = Negative
opposite OverflowClear = OverflowSet
