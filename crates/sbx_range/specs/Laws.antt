-- The laws of ranges: each result of the result table lies in the range that the table of ranges gives. Intervals stay
-- by the ends alone, whatever alignments the operands have; alignments stay by the alignments, at words of the
-- intervals.
use Rattle.std.specs.Prelude.{ℕ, ◌-◌, ◌<◌, ◌≤◌, ◌^◌, ◌≡◌, Bool, true, false, not, ◌==◌, ◌||◌, nat_le, pos, negsuc, ◌+ℤ◌}
use Rattle.std.specs.Prelude.{◌-ℤ◌, ◌≤ℤ◌, Option, Some, None}
use Rattle.v8_alu.specs.Conditions.{holds}
use Rattle.v8_alu.specs.Word.{sign_extend}
use Rattle.v8_alu.specs.Cond.{Cond}
use Rattle.v8_alu.specs.Icc.{Icc}
use Rattle.v8_alu.specs.Outcomes.{outcome, divided, division_of, tagged_outcome}
use Rattle.v8_alu.specs.Results.{signed, sum, difference, difference_codes}
use Rattle.v8_alu.specs.declared.AluOut.{AluOut}
use Rattle.v8_alu.specs.declared.Division.{Division}
use Rattle.v8_alu.specs.declared.Op.{Op}
use Rattle.v8_alu.specs.declared.Op.TheVariants.{Xor}
use Rattle.v8_alu.specs.declared.TaggedOp.{TaggedOp}
use Rattle.sbx_image.specs.Range.{Range}
use Rattle.sbx_range.specs.declared.refining.Pair.{Pair}
use Rattle.sbx_range.specs.declared.table.TheConstants.{BYTE_OR_END, SIGNED_BYTE, SIGNED_HALF, UNSIGNED_BYTE}
use Rattle.sbx_range.specs.declared.table.TheConstants.{UNSIGNED_HALF}
use Rattle.sbx_range.specs.Ranges.{InInterval, InRange, IsAligned, is_within, known}
use Rattle.sbx_range.specs.Rows.{excludes_zero, ones_above, range_divide, differences_fit, sums_fit, unsigned_byte}
use Rattle.sbx_range.specs.Rows.{unsigned_half, signed_byte, signed_half, byte_or_end}
use Rattle.sbx_range.specs.Table.{range_of, range_of_tagged, tagged_fits, range_of_y, range_of_written_y}
use Rattle.sbx_range.specs.Refining.{common, some_range, narrowed, narrowed_by_value, opposite, refine, refine_by_value}

abbrev pub is_some : (A : Type 0) → Option A → Bool
is_some A (Some x) = true
is_some A None = false

-- two words, each in the interval of its range
pub record AreIn (a b : Range) (x y : ℕ) : Type 0 where
  pub first_word : x < 2 ^ 32
  pub second_word : y < 2 ^ 32
  pub first : InInterval a x
  pub second : InInterval b y

-- ---- results

-- value and Y of an operation, whatever codes and Y were before; ys is the range of that Y
abbrev pub ResultsStayIn : Type 0
ResultsStayIn =
    (operation : Op) (a b ys : Range) (x y : ℕ) (icc : Icc) (high : ℕ) → AreIn a b x y → high < 2 ^ 32 →
    InInterval ys high
    → InInterval (range_of operation a b) (outcome operation x y icc high).value
    × InInterval (range_of_y operation ys) (outcome operation x y icc high).y

abbrev pub ResultsStayAligned : Type 0
ResultsStayAligned =
    (operation : Op) (a b ys : Range) (x y : ℕ) (icc : Icc) (high : ℕ) → AreIn a b x y
    → IsAligned a.alignment x → IsAligned b.alignment y → IsAligned ys.alignment high
    → IsAligned (range_of operation a b).alignment (outcome operation x y icc high).value
    × IsAligned (range_of_y operation ys).alignment (outcome operation x y icc high).y

-- the trapping tagged operations, where they have a result
abbrev pub TaggedResultsStayIn : Type 0
TaggedResultsStayIn =
    (operation : TaggedOp) (a b : Range) (x y : ℕ) (icc : Icc) (high : ℕ) (out : AluOut) → AreIn a b x y →
    tagged_outcome operation x y icc high ≡ Some out
    → InInterval (range_of_tagged operation a b) out.value
    × (IsAligned a.alignment x → IsAligned b.alignment y →
    IsAligned (range_of_tagged operation a b).alignment out.value)

abbrev pub TaggedOperationsHaveResults : Type 0
TaggedOperationsHaveResults =
    (operation : TaggedOp) (a b : Range) (x y : ℕ) (icc : Icc) (high : ℕ) → AreIn a b x y → IsAligned a.alignment x →
    IsAligned b.alignment y
    → tagged_fits operation a b ≡ true → is_some AluOut (tagged_outcome operation x y icc high) ≡ true

abbrev pub DivisionsHaveResults : Type 0
DivisionsHaveResults =
    (operation : Division) (b : Range) (x y : ℕ) (icc : Icc) (high : ℕ) → y < 2 ^ 32 → InInterval b y →
    excludes_zero b ≡ true
    → division_of operation x y icc high ≡ Some (divided operation x y icc high)

-- a division of the word x below the word high of Y; nothing is asked of alignments
abbrev pub QuotientsStayIn : Type 0
QuotientsStayIn =
    (operation : Division) (ys a b : Range) (high x y : ℕ) (icc : Icc) → AreIn a b x y → high < 2 ^ 32 →
    InInterval ys high
    → InRange (range_divide ys a b) (divided operation x y icc high).value

-- WRY writes the XOR of its operands
abbrev pub WrittenYStaysIn : Type 0
WrittenYStaysIn =
    (a b : Range) (x y : ℕ) (icc : Icc) (high : ℕ) → AreIn a b x y
    → InRange (range_of_written_y a b) (outcome Xor x y icc high).value

-- the words that bytes and halves are loaded as, and those that the service get gives
pub record LoadsStayIn : Type 0 where
  pub are : (UNSIGNED_BYTE ≡ unsigned_byte) × (UNSIGNED_HALF ≡ unsigned_half) × (SIGNED_BYTE ≡ signed_byte)
      × (SIGNED_HALF ≡ signed_half) × (BYTE_OR_END ≡ byte_or_end)
  pub unsigned_bytes : (n : ℕ) → n < 2 ^ 8 → InRange unsigned_byte n
  pub unsigned_halves : (n : ℕ) → n < 2 ^ 16 → InRange unsigned_half n
  pub signed_bytes : (n : ℕ) → n < 2 ^ 8 → InRange signed_byte (sign_extend 8 n)
  pub signed_halves : (n : ℕ) → n < 2 ^ 16 → InRange signed_half (sign_extend 16 n)
  pub bytes_of_input : (n : ℕ) → n < 2 ^ 8 → InRange byte_or_end n
  pub end_of_input : InRange byte_or_end 0xFFFFFFFF

-- a word read as signed is the sum, or the difference, where all of them fit
abbrev pub SumsAreExact : Type 0
SumsAreExact =
    (a b : Range) (x y : ℕ) → AreIn a b x y
    → (sums_fit a b ≡ true → signed (sum x y false) ≡ signed x +ℤ signed y)
    × (differences_fit a b ≡ true → signed (difference x y false) ≡ signed x -ℤ signed y)

-- known words, what two ranges share, and ranges within ranges
pub record WordsStayIn : Type 0 where
  pub of_known : (w : ℕ) → InRange (known w) w
  pub of_common : (a b : Range) (w : ℕ) → InInterval a w → InInterval b w →
      InInterval (common a b) w × (some_range (common a b) ≡ Some (common a b))
  pub of_common_alignment : (a b : Range) (w : ℕ) → IsAligned a.alignment w → IsAligned b.alignment w →
      IsAligned (common a b).alignment w
  pub of_wider : (a b : Range) (w : ℕ) → is_within a b ≡ true → InRange a w → InRange b w
  pub of_wider_interval : (a b : Range) (w : ℕ) → is_within a b ≡ true → InInterval a w → InInterval b w

-- all ones below a power of two: the least that isn't below n, a word
abbrev pub OnesAreLeast : Type 0
OnesAreLeast =
    (n : ℕ) → n < 2 ^ 32 → (k : ℕ) × (ones_above n ≡ 2 ^ k - 1) × (n < 2 ^ k) × ((j : ℕ) → n < 2 ^ j → k ≤ j)

-- ---- refinement

-- two words, each in the interval of its side
pub record KeepsBoth (p : Pair) (x y : ℕ) : Type 0 where
  pub left : InInterval p.left x
  pub right : InInterval p.right y

-- no pair is lost for which the condition holds of the codes of x less y
abbrev pub RefinementKeepsPairs : Type 0
RefinementKeepsPairs =
    (cond : Cond) (a b : Range) (x y : ℕ) → AreIn a b x y → holds cond (difference_codes x y false) ≡ true
    → (refine cond a b ≡ Some (narrowed cond a b)) × KeepsBoth (narrowed cond a b) x y
    × (IsAligned a.alignment x → IsAligned b.alignment y →
    IsAligned (narrowed cond a b).left.alignment x × IsAligned (narrowed cond a b).right.alignment y)

-- codes whose N and Z are a word's
pub record HasSigns (f : Icc) (w : ℕ) : Type 0 where
  pub zero : f.z ≡ (w == 0)
  pub negative : f.n ≡ nat_le (2 ^ 31) w

-- no word is lost for which the condition holds of such codes
abbrev pub RefinementKeepsWords : Type 0
RefinementKeepsWords =
    (cond : Cond) (a : Range) (x : ℕ) (f : Icc) → x < 2 ^ 32 → InInterval a x → HasSigns f x → holds cond f ≡ true
    → (refine_by_value cond a ≡ Some (narrowed_by_value cond a)) × InInterval (narrowed_by_value cond a) x
    × (IsAligned a.alignment x → IsAligned (narrowed_by_value cond a).alignment x)

-- a range of signed words that isn't empty
pub record IsRange (a : Range) : Type 0 where
  pub low : negsuc 2147483647 ≤ℤ a.lo
  pub high : a.hi ≤ℤ pos 2147483647
  pub some : a.lo ≤ℤ a.hi

-- The opposite of a condition holds exactly where it doesn't, and of the two one is possible.
pub record OneEdgeIsLeft : Type 0 where
  pub denies : (cond : Cond) (f : Icc) → holds (opposite cond) f ≡ not (holds cond f)
  pub compared : (cond : Cond) (a b : Range) → IsRange a → IsRange b →
      (is_some Pair (refine cond a b) || is_some Pair (refine (opposite cond) a b)) ≡ true
  pub by_value : (cond : Cond) (a : Range) → IsRange a →
      (is_some Range (refine_by_value cond a) || is_some Range (refine_by_value (opposite cond) a)) ≡ true
