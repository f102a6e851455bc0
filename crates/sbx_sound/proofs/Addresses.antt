-- Where an access reaches, by what is known: bytes of the data, or a word of the frame.
use Rattle.std.proofs.Common.{◌≡◌, ℕ, ◌+◌, ◌-◌, ◌*◌, ◌/◌, ◌%◌, ◌^◌, ◌<◌, ◌≤◌, ℤ, Bool, true, false, List, Option, Some, None, ap, ◌∙◌, subst, inl, inr, arith}
use Rattle.std.specs.Prelude.{◌⊎◌, pos, negsuc, ◌+ℤ◌, ◌≤ℤ◌, int_lt, not, nat_le, if◌then◌else◌}
use Rattle.std.proofs.lemmas.Bool.Decides.{nat_tests}
use Rattle.std.proofs.lemmas.Int.{ints}
use Rattle.v8_word.specs.declared.Size.{Size}
use Rattle.v8_word.specs.declared.Size.TheVariants as sizes
use Rattle.v8_word.specs.declared.Icc.{Icc}
use Rattle.v8_alu.specs.Outcomes.{outcome}
use Rattle.v8_alu.specs.Results.{signed, sum}
use Rattle.v8_alu.specs.declared.Op.TheVariants as ops
use Rattle.v8_meaning.specs.Operands.{sum_address}
use Rattle.v8_meaning.specs.Transfers.{bytes_in}
use Rattle.sbx_image.specs.Parts.{Parts}
use Rattle.sbx_image.specs.Range.{Range}
use Rattle.sbx_image.specs.Region.{Region}
use Rattle.sbx_image.specs.Regions.{data_start, holds, in_one_region}
use Rattle.sbx_image.proofs.Within.{held_bounds, held_part}
use Rattle.sbx_form.specs.Forms.{Cells}
use Rattle.sbx_range.specs.Ranges.{InInterval}
use Rattle.sbx_range.specs.Table.{range_of_address}
use Rattle.sbx_range.proofs.Alignments.{of_range_of}
use Rattle.sbx_range.proofs.Multiples.{aligned-fewer}
use Rattle.sbx_range.proofs.Sound.{in_range_of}
use Rattle.sbx_range.proofs.Words.{both_true, signed-word}
use Rattle.sbx_rules.specs.Entry.{Entry}
use Rattle.sbx_rules.specs.Fits.{HasAlignment}
use Rattle.sbx_rules.specs.Known.{range_of_entry}
use Rattle.sbx_rules.specs.Results.{address_of}
use Rattle.sbx_rules.specs.Transfer.{is_word_offset, word_at_offset}
use Rattle.sbx_fits.proofs.Entries.{Has}
use Rattle.sbx_rules.specs.Rules.{is_aligned_range, is_in_data, is_in_frame, is_multiple_of_4, needed_alignment}

not_less : (x y : ℤ) → not (int_lt x y) ≡ true → y ≤ℤ x
not_less x y h = grind (arith, ints)

-- ---- the data

-- bytes in one region of the data, which may be written if they are written, from a multiple of their number on
pub record IsInData (regions : List Region) (a size : ℕ) (writes : Bool) : Type 0 where
  pub lies : in_one_region regions a size writes ≡ true
  pub multiple : a % size ≡ 0

-- each word of a range that a region holds is an address there
in_bounds : (regions : List Region) (size z : ℕ) (writes : Bool) (r : Range) → z < 2 ^ 32 → InInterval r z →
    holds regions r.lo (r.hi +ℤ pos size) writes ≡ true → in_one_region regions z size writes ≡ true
in_bounds regions size z writes r small inside h =
    let low = (held_bounds regions r.lo (r.hi +ℤ pos size) writes h).0 in
    by_sign low inside.low inside.high (signed-word z small)
  where
    by_sign : pos data_start ≤ℤ r.lo → r.lo ≤ℤ signed z → signed z ≤ℤ r.hi
        → ((signed z ≡ pos z) × (z < 2 ^ 31)) ⊎ (((signed z +ℤ pos (2 ^ 32)) ≡ pos z) × (2 ^ 31 ≤ z)) → in_one_region regions z size writes ≡ true
    by_sign low l u (inl e) = (let same = e.0 in held_part regions (pos z) (pos (z + size)) r.lo (r.hi +ℤ pos size) writes (omega (arith, ints)) (omega (arith, ints)) h)
    by_sign low l u (inr e) = absurd (let same = e.0 in omega (arith, ints))

at_most : (j k : ℕ) → nat_le j k ≡ true → j ≤ k
at_most j k h = grind (arith, nat_tests)

is_multiple : (f : Size) (k z : ℕ) → nat_le (needed_alignment (bytes_in f)) k ≡ true → z % 2 ^ k ≡ 0 → z % bytes_in f ≡ 0
is_multiple sizes.Byte k z h e = omega arith
is_multiple sizes.Half k z h e = aligned-fewer 1 k z (at_most 1 k h) e
is_multiple sizes.Word k z h e = aligned-fewer 2 k z (at_most 2 k h) e
is_multiple sizes.Double k z h e = aligned-fewer 3 k z (at_most 3 k h) e

no_codes : Icc
no_codes = record { n = false; z = false; v = false; c = false }

sum_is : (x y : ℕ) → (outcome ops.Add x y no_codes 0).value ≡ sum_address x y
unfolding outcome
sum_is x y = (let e : sum x y false ≡ sum_address x y = omega arith in e)

pub lies_in_data : (start : Cells) (parts : Parts) (f : Size) (writes : Bool) (a b : Option Entry) (x y : ℕ) → x < 2 ^ 32 → y < 2 ^ 32 → Has start a x →
    Has start b y → HasAlignment (range_of_entry a) x → HasAlignment (range_of_entry b) y
    → is_aligned_range (bytes_in f) (address_of a b) ≡ true → is_in_data parts (bytes_in f) writes (address_of a b) ≡ true → IsInData parts.regions (sum_address x y) (bytes_in f) writes
lies_in_data start parts f writes None b x y p q r s u v aligned placed = absurd (cc)
lies_in_data start parts f writes (Some a) None x y p q r s u v aligned placed = absurd (cc)
lies_in_data start parts f writes (Some a) (Some b) x y p q r s u v aligned placed =
    let range = range_of_address a.range b.range in
    let z = sum_address x y in
    let inside : InInterval range z = subst (InInterval range) (sum_is x y) (in_range_of ops.Add a.range b.range x y no_codes 0 p q r.interval s.interval) in
    let multiple : z % 2 ^ range.alignment ≡ 0 = subst (λ w. w % 2 ^ range.alignment ≡ 0) (sum_is x y) (of_range_of ops.Add a.range b.range x y no_codes 0 p q r.interval s.interval u v) in
    record { lies = in_bounds parts.regions (bytes_in f) z writes range (omega arith) inside placed; multiple = is_multiple f range.alignment z aligned multiple }

-- ---- the frame

-- an offset from %sp that is a frame word's
pub record IsWordOffset (frame : ℕ) (offset : ℤ) : Type 0 where
  pub word : ℕ
  pub is : offset ≡ pos (64 + 4 * word)
  pub within : 4 * word + 68 ≤ frame

pub lies_in_frame : (frame : ℕ) (offset : ℤ) → is_multiple_of_4 offset ≡ true → is_in_frame frame offset ≡ true → IsWordOffset frame offset
lies_in_frame frame (negsuc n) m h =
    absurd (let both = both_true (not (int_lt (negsuc n) (pos 64))) (not (int_lt (pos frame) (negsuc n +ℤ pos 4))) h in
    let low = not_less (negsuc n) (pos 64) both.0 in omega (arith, ints))
lies_in_frame frame (pos n) m h =
    let both = both_true (not (int_lt (pos n) (pos 64))) (not (int_lt (pos frame) (pos n +ℤ pos 4))) h in
    let low : pos 64 ≤ℤ pos n = not_less (pos n) (pos 64) both.0 in
    let high : (pos n +ℤ pos 4) ≤ℤ pos frame = not_less (pos frame) (pos n +ℤ pos 4) both.1 in
    let from : 64 ≤ n = omega (arith, ints) in
    let to : n + 4 ≤ frame = omega (arith, ints) in
    let four : n % 4 ≡ 0 = grind (arith, nat_tests) in
    let same : n ≡ 64 + 4 * ((n - 64) / 4) = omega arith in
    record { word = (n - 64) / 4; is = ap pos same; within = omega (arith, from, to, four) }

pub word_at : (frame j : ℕ) (offset : ℤ) → frame ≤ 4096 → offset ≡ pos (64 + 4 * j) → 4 * j + 68 ≤ frame → word_at_offset frame (Some offset) ≡ Some (32 + j)
word_at frame j offset small is within =
    let test : is_word_offset frame (64 + 4 * j) ≡ true = grind (arith, nat_tests) in
    let place : 32 + (64 + 4 * j - 64) / 4 ≡ 32 + j = omega arith in
    ap (λ z. word_at_offset frame (Some z)) is ∙ ap (λ (t : Bool). if t then Some (32 + (64 + 4 * j - 64) / 4) else None) test ∙ ap (λ (x : ℕ). Some x) place

-- the address that %sp and an immediate give, and %fp and an immediate
pub by_sp : (base w n : ℕ) → w < 2 ^ 32 → signed w ≡ pos n → base + n < 2 ^ 31 → sum_address base w ≡ base + n
by_sp base w n small is below = by_sign (signed-word w small)
  where
    by_sign : ((signed w ≡ pos w) × (w < 2 ^ 31)) ⊎ (((signed w +ℤ pos (2 ^ 32)) ≡ pos w) × (2 ^ 31 ≤ w)) → sum_address base w ≡ base + n
    by_sign (inl e) = (let same = e.0 in let equal : w ≡ n = omega (arith, ints) in omega (arith, equal, below))
    by_sign (inr e) = absurd (let same = e.0 in omega (arith, ints))

pub by_fp : (base frame w n : ℕ) → w < 2 ^ 32 → (signed w +ℤ pos frame) ≡ pos n → base + frame < 2 ^ 31 → n ≤ frame → sum_address (base + frame) w ≡ base + n
by_fp base frame w n small is below inside = by_sign (signed-word w small)
  where
    by_sign : ((signed w ≡ pos w) × (w < 2 ^ 31)) ⊎ (((signed w +ℤ pos (2 ^ 32)) ≡ pos w) × (2 ^ 31 ≤ w)) → sum_address (base + frame) w ≡ base + n
    by_sign (inl e) = (let same = e.0 in let equal : w + frame ≡ n = omega (arith, ints) in omega (arith, equal, below))
    by_sign (inr e) = (let same = e.0 in let equal : w + frame ≡ n + 2 ^ 32 = omega (arith, ints) in omega (arith, equal, below))
