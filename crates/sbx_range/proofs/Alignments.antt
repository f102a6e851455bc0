-- Each result has the alignment of its operation's range.
use Rattle.std.proofs.Common.{◌≡◌, ℕ, ◌+◌, ◌-◌, ◌*◌, ◌%◌, ◌^◌, ◌<◌, ◌≤◌, Bool, true, false, ◌||◌, refl, sym, ap, ◌∙◌, subst, arith, inl, inr, Some, None}
use Rattle.std.specs.Prelude.{◌&&◌, ◌==◌, if◌then◌else◌, not, nat_le, ℤ, pos, negsuc, ◌+ℤ◌, ◌-ℤ◌, ◌*ℤ◌, ◌≤ℤ◌, int_lt, bit_and, bit_or, bit_xor, min, max}
use Rattle.std.proofs.lemmas.Bool.{cases_lt}
use Rattle.std.proofs.lemmas.Nat.{or_comm, xor_lt}
use Rattle.std.proofs.lemmas.Int.{ints}
use Rattle.std.proofs.lemmas.Bool.Decides.{nat_tests}
use Rattle.v8_alu.specs.Icc.{Icc}
use Rattle.v8_alu.specs.Outcomes.{outcome, complement, divided, tagged_codes, tagged_of, tagged_outcome}
use Rattle.v8_alu.specs.declared.AluOut.{AluOut}
use Rattle.v8_alu.specs.Word.{sign_extend}
use Rattle.v8_alu.specs.declared.TaggedOp.TheVariants.{TaggedAdd, TaggedSub}
use Rattle.v8_alu.specs.Results.{signed, is_signed_word, is_tagged, low_word, signed_product, sum, sum_codes, difference, difference_codes, shifted_left, shifted_right, shifted_right_signed}
use Rattle.v8_alu.specs.declared.Op.{Op}
use Rattle.v8_alu.specs.declared.Op.TheVariants.{Add, AddCc, Addx, AddxCc, Sub, SubCc, Subx, SubxCc, And, AndCc, Andn, AndnCc, Or, OrCc, Orn, OrnCc, Xor, XorCc}
use Rattle.v8_alu.specs.declared.Op.TheVariants.{Xnor, XnorCc, Sll, Srl, Sra, Umul, UmulCc, Smul, SmulCc, TaddCc, TsubCc, MulsCc}
use Rattle.sbx_image.specs.Range.{Range}
use Rattle.sbx_range.specs.Laws.{is_some, DivisionsHaveResults, LoadsStayIn, TaggedOperationsHaveResults, QuotientsStayIn, ResultsStayAligned, TaggedResultsStayIn, WrittenYStaysIn}
use Rattle.sbx_range.specs.Ranges.{InInterval, InRange, IsAligned, is_within, all, both_natural, fit, is_natural, is_single, is_zero, known, range}
use Rattle.sbx_range.specs.Rows.{differences_fit, excludes_zero, sums_fit, least_product, greatest_product, count_of, divides_naturals, range_add, range_and}
use Rattle.sbx_range.specs.Rows.{range_andn, range_divide, range_or, range_sll, range_smul, range_sra, range_srl, range_sub, range_umul, range_xor}
use Rattle.sbx_range.specs.Rows.{least_alignment, product_alignment}
use Rattle.sbx_range.specs.Table.{is_computed, range_of, range_of_written_y, range_of_y, row_of}
use Rattle.sbx_range.proofs.Words.{both_true, by_test, in_all, in_known, is_zero-word, signed-natural, signed-word, single-word}
use Rattle.sbx_range.proofs.Additions.{difference-fits, in_range_add, in_range_sub, sum-fits}
use Rattle.sbx_range.proofs.Divided.{in_range_divide}
use Rattle.sbx_range.proofs.Multiples.{aligned-and, aligned-and_right, aligned-difference, aligned-fewer, aligned-known, aligned-or, aligned-sll}
use Rattle.sbx_range.proofs.Multiples.{aligned-sll_any, aligned-smul, aligned-sra, aligned-srl, aligned-sum, aligned-umul, aligned-xor}
use Rattle.sbx_range.proofs.Sound.{computed-same, tagged-value}

-- every word is a multiple of 1
pub any-word : (w : ℕ) → w % 2 ^ 0 ≡ 0
any-word w = omega arith

-- both sides of a test have an alignment
either : (t : Bool) (r s : Range) (w : ℕ) → IsAligned r.alignment w → IsAligned s.alignment w → IsAligned (if t then r else s).alignment w
either true r s w h g = h
either false r s w h g = g

of_fit : (l h : ℤ) (alignment w : ℕ) → IsAligned alignment w → IsAligned (fit l h alignment).alignment w
of_fit l h alignment w is = either (is_signed_word l && is_signed_word h) (range l h alignment) (all alignment) w is is

of_min_left : (j k w : ℕ) → IsAligned j w → IsAligned (min j k) w
of_min_left j k w h = aligned-fewer (min j k) j w (omega arith) h

of_min_right : (j k w : ℕ) → IsAligned k w → IsAligned (min j k) w
of_min_right j k w h = aligned-fewer (min j k) k w (omega arith) h

-- the greater of two alignments is one of them
pub of_max : (j k w : ℕ) → IsAligned j w → IsAligned k w → IsAligned (max j k) w
of_max j k w h g = elim (cases_lt j k) [
  | inl less ↦ (let e : max j k ≡ k = omega arith in ap (λ i. w % 2 ^ i) e ∙ g)
  | inr more ↦ (let e : max j k ≡ j = omega arith in ap (λ i. w % 2 ^ i) e ∙ h)
]

-- ---- rows

of_add : (a b : Range) (x y : ℕ) → x < 2 ^ 32 → y < 2 ^ 32 → IsAligned a.alignment x → IsAligned b.alignment y → IsAligned (range_add a b).alignment (sum x y false)
unfolding range_add
of_add a b x y p q h g =
    of_fit (a.lo +ℤ b.lo) (a.hi +ℤ b.hi) (least_alignment a b) (sum x y false)
    (aligned-sum (least_alignment a b) x y p q (of_min_left a.alignment b.alignment x h) (of_min_right a.alignment b.alignment y g))

of_sub : (a b : Range) (x y : ℕ) → x < 2 ^ 32 → y < 2 ^ 32 → IsAligned a.alignment x → IsAligned b.alignment y → IsAligned (range_sub a b).alignment (difference x y false)
unfolding range_sub
of_sub a b x y p q h g =
    of_fit (a.lo -ℤ b.hi) (a.hi -ℤ b.lo) (least_alignment a b) (difference x y false)
    (aligned-difference (least_alignment a b) x y p q (of_min_left a.alignment b.alignment x h) (of_min_right a.alignment b.alignment y g))

of_or : (a b : Range) (x y : ℕ) → x < 2 ^ 32 → y < 2 ^ 32 → InInterval a x → InInterval b y → IsAligned a.alignment x → IsAligned b.alignment y → IsAligned (range_or a b).alignment (bit_or x y)
unfolding range_or
of_or a b x y p q s u h g =
    let P : Range → Type 0 = λ r. IsAligned r.alignment (bit_or x y) in
    let both = aligned-or (least_alignment a b) x y (of_min_left a.alignment b.alignment x h) (of_min_right a.alignment b.alignment y g) in
    by_test (is_zero a) P _ _
    (λ z. let e : bit_or x y ≡ y = ap (λ n. bit_or n y) (is_zero-word a x p z s) in ap (λ n. n % 2 ^ b.alignment) e ∙ g)
    (λ _. by_test (is_zero b) P _ _
    (λ z. let e : bit_or x y ≡ x = ap (λ n. bit_or x n) (is_zero-word b y q z u) ∙ or_comm x 0 in ap (λ n. n % 2 ^ a.alignment) e ∙ h)
    (λ _. either (both_natural a b) _ _ (bit_or x y) both both))

of_xor : (a b : Range) (x y : ℕ) → IsAligned a.alignment x → IsAligned b.alignment y → IsAligned (range_xor a b).alignment (bit_xor x y)
unfolding range_xor
of_xor a b x y h g =
    let both = aligned-xor (least_alignment a b) x y (of_min_left a.alignment b.alignment x h) (of_min_right a.alignment b.alignment y g) in
    either (both_natural a b) _ _ (bit_xor x y) both both

of_and : (a b : Range) (x y : ℕ) → IsAligned a.alignment x → IsAligned b.alignment y → IsAligned (range_and a b).alignment (bit_and x y)
unfolding range_and
of_and a b x y h g =
    let w = bit_and x y in
    let is = of_max a.alignment b.alignment (bit_and x y) (aligned-and a.alignment x y h) (aligned-and_right b.alignment x y g) in
    either (both_natural a b) _ _ (bit_and x y) is (either (is_natural a.lo) _ _ (bit_and x y) is (either (is_natural b.lo) _ _ (bit_and x y) is is))

of_andn : (a b : Range) (x y : ℕ) → IsAligned a.alignment x → IsAligned (range_andn a b).alignment (bit_and x (complement y))
unfolding range_andn
of_andn a b x y h =
    let is = aligned-and a.alignment x (complement y) h in
    either (is_natural a.lo) _ _ (bit_and x (complement y)) is is

counted : (b : Range) (y : ℕ) → y < 2 ^ 32 → is_single b ≡ true → InInterval b y → count_of b ≡ y % 32
counted b y q t u = ap (λ n. n % 32) (single-word b y q t u)

of_sll : (a b : Range) (x y : ℕ) → x < 2 ^ 32 → y < 2 ^ 32 → InInterval b y → IsAligned a.alignment x → IsAligned (range_sll a b).alignment (shifted_left x y)
unfolding range_sll
of_sll a b x y p q u h =
    by_test (is_single b) (λ r. IsAligned r.alignment (shifted_left x y)) _ _
    (λ t. of_fit (a.lo *ℤ pos (2 ^ count_of b)) (a.hi *ℤ pos (2 ^ count_of b)) (min 3 (a.alignment + count_of b)) (shifted_left x y)
    (ap (λ k. shifted_left x y % 2 ^ min 3 (a.alignment + k)) (counted b y q t u) ∙ aligned-sll a.alignment x y h))
    (λ _. aligned-sll_any a.alignment x y p h)

of_srl : (a b : Range) (x y : ℕ) → y < 2 ^ 32 → InInterval b y → IsAligned a.alignment x → IsAligned (range_srl a b).alignment (shifted_right x y)
unfolding range_srl
of_srl a b x y q u h =
    let w = shifted_right x y in
    by_test (is_single b) (λ r. IsAligned r.alignment (shifted_right x y)) _ _
    (λ t. let is : IsAligned (a.alignment - count_of b) (shifted_right x y) = ap (λ k. shifted_right x y % 2 ^ (a.alignment - k)) (counted b y q t u) ∙ aligned-srl a.alignment (y % 32) x h in
    either (is_natural a.lo || (count_of b == 0)) _ _ (shifted_right x y) is (of_fit (pos 0) (pos (2 ^ (32 - count_of b) - 1)) (a.alignment - count_of b) (shifted_right x y) is))
    (λ _. either (is_natural a.lo) _ _ (shifted_right x y) (any-word _) (any-word _))

of_sra : (a b : Range) (x y : ℕ) → x < 2 ^ 32 → y < 2 ^ 32 → InInterval b y → IsAligned a.alignment x → IsAligned (range_sra a b).alignment (shifted_right_signed x y)
unfolding range_sra
of_sra a b x y p q u h =
    by_test (is_single b) (λ r. IsAligned r.alignment (shifted_right_signed x y)) _ _
    (λ t. ap (λ k. shifted_right_signed x y % 2 ^ (a.alignment - k)) (counted b y q t u) ∙ aligned-sra a.alignment x y p h)
    (λ _. either (is_natural a.lo) _ _ (shifted_right_signed x y) (any-word _) (any-word _))

of_smul : (a b : Range) (x y : ℕ) → x < 2 ^ 32 → y < 2 ^ 32 → IsAligned a.alignment x → IsAligned b.alignment y → IsAligned (range_smul a b).alignment (low_word (signed_product x y))
unfolding range_smul
of_smul a b x y p q h g = of_fit (least_product a b) (greatest_product a b) (product_alignment a b) (low_word (signed_product x y)) (aligned-smul a.alignment b.alignment x y p q h g)

of_umul : (a b : Range) (x y : ℕ) → IsAligned a.alignment x → IsAligned b.alignment y → IsAligned (range_umul a b).alignment (low_word (x * y))
unfolding range_umul
of_umul a b x y h g =
    let is = aligned-umul a.alignment b.alignment x y h g in
    either (both_natural a b) _ _ (low_word (x * y)) (of_fit (a.lo *ℤ b.lo) (a.hi *ℤ b.hi) (product_alignment a b) (low_word (x * y)) is) is

pub of_divide : (ys a b : Range) (w : ℕ) → IsAligned (range_divide ys a b).alignment w
unfolding range_divide
of_divide ys a b w = either (divides_naturals ys a b) _ _ w (any-word w) (any-word w)

-- the row of an operation has its results' alignment
of_row : (op : Op) (a b : Range) (x y : ℕ) (icc : Icc) (high : ℕ) → x < 2 ^ 32 → y < 2 ^ 32 → InInterval a x → InInterval b y → IsAligned a.alignment x →
    IsAligned b.alignment y → IsAligned (row_of op a b).alignment (outcome op x y icc high).value
unfolding row_of outcome
of_row Add a b x y icc high p q s u h g = of_add a b x y p q h g
of_row AddCc a b x y icc high p q s u h g = of_add a b x y p q h g
of_row TaddCc a b x y icc high p q s u h g = of_add a b x y p q h g
of_row Sub a b x y icc high p q s u h g = of_sub a b x y p q h g
of_row SubCc a b x y icc high p q s u h g = of_sub a b x y p q h g
of_row TsubCc a b x y icc high p q s u h g = of_sub a b x y p q h g
of_row Or a b x y icc high p q s u h g = of_or a b x y p q s u h g
of_row OrCc a b x y icc high p q s u h g = of_or a b x y p q s u h g
of_row Xor a b x y icc high p q s u h g = of_xor a b x y h g
of_row XorCc a b x y icc high p q s u h g = of_xor a b x y h g
of_row And a b x y icc high p q s u h g = of_and a b x y h g
of_row AndCc a b x y icc high p q s u h g = of_and a b x y h g
of_row Andn a b x y icc high p q s u h g = of_andn a b x y h
of_row AndnCc a b x y icc high p q s u h g = of_andn a b x y h
of_row Sll a b x y icc high p q s u h g = of_sll a b x y p q u h
of_row Srl a b x y icc high p q s u h g = of_srl a b x y q u h
of_row Sra a b x y icc high p q s u h g = of_sra a b x y p q u h
of_row Smul a b x y icc high p q s u h g = of_smul a b x y p q h g
of_row SmulCc a b x y icc high p q s u h g = of_smul a b x y p q h g
of_row Umul a b x y icc high p q s u h g = of_umul a b x y h g
of_row UmulCc a b x y icc high p q s u h g = of_umul a b x y h g
of_row Addx a b x y icc high p q s u h g = any-word _
of_row AddxCc a b x y icc high p q s u h g = any-word _
of_row Subx a b x y icc high p q s u h g = any-word _
of_row SubxCc a b x y icc high p q s u h g = any-word _
of_row Orn a b x y icc high p q s u h g = any-word _
of_row OrnCc a b x y icc high p q s u h g = any-word _
of_row Xnor a b x y icc high p q s u h g = any-word _
of_row XnorCc a b x y icc high p q s u h g = any-word _
of_row MulsCc a b x y icc high p q s u h g = any-word _

pub of_range_of : (op : Op) (a b : Range) (x y : ℕ) (icc : Icc) (high : ℕ) → x < 2 ^ 32 → y < 2 ^ 32 → InInterval a x → InInterval b y →
    IsAligned a.alignment x → IsAligned b.alignment y → IsAligned (range_of op a b).alignment (outcome op x y icc high).value
unfolding range_of
of_range_of op a b x y icc high p q s u h g =
    by_test (is_computed op && (is_single a && is_single b)) (λ r. IsAligned r.alignment (outcome op x y icc high).value) _ _
    (λ t. let both = both_true (is_computed op) (is_single a && is_single b) t in
    let singles = both_true (is_single a) (is_single b) both.1 in
    subst (λ w. IsAligned (known w).alignment (outcome op x y icc high).value) (sym (computed-same op a b x y icc high p q s u both.0 singles.0 singles.1)) (aligned-known _))
    (λ _. of_row op a b x y icc high p q s u h g)

y_aligned : (op : Op) (ys : Range) (x y : ℕ) (icc : Icc) (high : ℕ) → IsAligned ys.alignment high → IsAligned (range_of_y op ys).alignment (outcome op x y icc high).y
unfolding outcome
y_aligned Add ys x y icc high h = h
y_aligned AddCc ys x y icc high h = h
y_aligned TaddCc ys x y icc high h = h
y_aligned Sub ys x y icc high h = h
y_aligned SubCc ys x y icc high h = h
y_aligned TsubCc ys x y icc high h = h
y_aligned Or ys x y icc high h = h
y_aligned OrCc ys x y icc high h = h
y_aligned Orn ys x y icc high h = h
y_aligned OrnCc ys x y icc high h = h
y_aligned Xor ys x y icc high h = h
y_aligned XorCc ys x y icc high h = h
y_aligned Xnor ys x y icc high h = h
y_aligned XnorCc ys x y icc high h = h
y_aligned And ys x y icc high h = h
y_aligned AndCc ys x y icc high h = h
y_aligned Andn ys x y icc high h = h
y_aligned AndnCc ys x y icc high h = h
y_aligned Sll ys x y icc high h = h
y_aligned Srl ys x y icc high h = h
y_aligned Sra ys x y icc high h = h
y_aligned Addx ys x y icc high h = h
y_aligned AddxCc ys x y icc high h = h
y_aligned Subx ys x y icc high h = h
y_aligned SubxCc ys x y icc high h = h
y_aligned Smul ys x y icc high h = any-word _
y_aligned SmulCc ys x y icc high h = any-word _
y_aligned Umul ys x y icc high h = any-word _
y_aligned UmulCc ys x y icc high h = any-word _
y_aligned MulsCc ys x y icc high h = any-word _

pub results_stay_aligned : ResultsStayAligned
results_stay_aligned op a b ys x y icc high are h g v =
    (of_range_of op a b x y icc high are.first_word are.second_word are.first are.second h g, y_aligned op ys x y icc high v)

pub tagged_results_stay_in : TaggedResultsStayIn
unfolding tagged_outcome
tagged_results_stay_in TaggedAdd a b x y icc high out are e =
    let v : sum x y false ≡ out.value = tagged-value _ high (sum x y false) out e in (
      subst (InInterval (range_add a b)) v (in_range_add a b x y are.first_word are.second_word are.first are.second),
      λ h g. subst (IsAligned (range_add a b).alignment) v (of_add a b x y are.first_word are.second_word h g),
    )
tagged_results_stay_in TaggedSub a b x y icc high out are e =
    let v : difference x y false ≡ out.value = tagged-value _ high (difference x y false) out e in (
      subst (InInterval (range_sub a b)) v (in_range_sub a b x y are.first_word are.second_word are.first are.second),
      λ h g. subst (IsAligned (range_sub a b).alignment) v (of_sub a b x y are.first_word are.second_word h g),
    )

pub quotients_stay_in : QuotientsStayIn
quotients_stay_in op ys a b high x y icc are r v =
    record { interval = in_range_divide op ys a b high x y icc r are.first_word are.second_word v are.first are.second; aligned = of_divide ys a b (divided op x y icc high).value }

xor-word : (x y : ℕ) (icc : Icc) (high : ℕ) → x < 2 ^ 32 → y < 2 ^ 32 → (outcome Xor x y icc high).value < 2 ^ 32
unfolding outcome
xor-word x y icc high p q = xor_lt 32 x y p q

pub written_y_stays_in : WrittenYStaysIn
unfolding range_of_written_y
written_y_stays_in a b x y icc high are =
    by_test (is_single a && is_single b) (λ r. InRange r (outcome Xor x y icc high).value) _ _
    (λ t. let singles = both_true (is_single a) (is_single b) t in
    subst (λ w. InRange (known w) (outcome Xor x y icc high).value)
    (sym (computed-same Xor a b x y icc high are.first_word are.second_word are.first are.second refl singles.0 singles.1))
    (record { interval = in_known _; aligned = aligned-known _ }))
    (λ _. record { interval = in_all 0 _ (xor-word x y icc high are.first_word are.second_word); aligned = any-word _ })

-- ---- where there is a result

untagged : (j k x y : ℕ) → nat_le 2 (min j k) ≡ true → IsAligned j x → IsAligned k y → is_tagged x y ≡ false
untagged j k x y t h g =
    let le = at_least (min j k) t in
    let a : x % 2 ^ 2 ≡ 0 = aligned-fewer 2 j x (omega arith) h in
    let b : y % 2 ^ 2 ≡ 0 = aligned-fewer 2 k y (omega arith) g in
    grind (arith, nat_tests)
  where
    at_least : (n : ℕ) → nat_le 2 n ≡ true → 2 ≤ n
    at_least n h = grind (arith, nat_tests)

result_of-tagged : (f : Icc) (high v : ℕ) → f.v ≡ false → is_some AluOut (tagged_of f high v) ≡ true
result_of-tagged f high v e = ap (λ (t : Bool). is_some AluOut (if t then None else Some (record { value = v; icc = f; y = high }))) e

no-flag : (fits tagged : Bool) → fits ≡ true → tagged ≡ false → (not fits || tagged) ≡ false
no-flag true false e h = refl
no-flag true true e h = absurd (cc)
no-flag false t e h = absurd (cc)

pub tagged_operations_have_results : TaggedOperationsHaveResults
unfolding tagged_outcome
tagged_operations_have_results TaggedAdd a b x y icc high are h g t =
    let both = both_true (nat_le 2 (least_alignment a b)) (sums_fit a b) t in
    result_of-tagged (tagged_codes x y (sum_codes x y false)) high (sum x y false)
    (no-flag (is_signed_word (signed x +ℤ signed y +ℤ pos 0)) (is_tagged x y) (sum-fits a b x y are.first are.second both.1) (untagged a.alignment b.alignment x y both.0 h g))
tagged_operations_have_results TaggedSub a b x y icc high are h g t =
    let both = both_true (nat_le 2 (least_alignment a b)) (differences_fit a b) t in
    result_of-tagged (tagged_codes x y (difference_codes x y false)) high (difference x y false)
    (no-flag (is_signed_word (signed x -ℤ signed y -ℤ pos 0)) (is_tagged x y) (difference-fits a b x y are.first are.second both.1) (untagged a.alignment b.alignment x y both.0 h g))

not_zero : (b : Range) (y : ℕ) → y < 2 ^ 32 → InInterval b y → excludes_zero b ≡ true → (y == 0) ≡ false
not_zero b y q u t = let low = u.low in let high = u.high in let c = signed-word y q in grind (arith, ints, nat_tests)

pub divisions_have_results : DivisionsHaveResults
divisions_have_results op b x y icc high q u t = ap (λ (z : Bool). if z then None else Some (divided op x y icc high)) (not_zero b y q u t)

-- ---- loads, wider ranges

sign-byte : (n : ℕ) → n < 2 ^ 8 → (negsuc 127 ≤ℤ signed (sign_extend 8 n)) × (signed (sign_extend 8 n) ≤ℤ pos 127)
sign-byte n h = elim (cases_lt n 128) [
  | inl small ↦ (let e : sign_extend 8 n ≡ n = grind (arith, nat_tests) in let r = signed-natural n (omega arith) in (rw (e, r) (omega (arith, ints)), rw (e, r) (omega (arith, ints))))
  | inr large ↦ (let e : sign_extend 8 n ≡ n + (2 ^ 32 - 2 ^ 8) = grind (arith, nat_tests) in let w = signed-word (n + (2 ^ 32 - 2 ^ 8)) (omega arith) in
      (rw e (grind (arith, ints)), rw e (grind (arith, ints))))
]

sign-half : (n : ℕ) → n < 2 ^ 16 → (negsuc 32767 ≤ℤ signed (sign_extend 16 n)) × (signed (sign_extend 16 n) ≤ℤ pos 32767)
sign-half n h = elim (cases_lt n 32768) [
  | inl small ↦ (let e : sign_extend 16 n ≡ n = grind (arith, nat_tests) in let r = signed-natural n (omega arith) in (rw (e, r) (omega (arith, ints)), rw (e, r) (omega (arith, ints))))
  | inr large ↦ (let e : sign_extend 16 n ≡ n + (2 ^ 32 - 2 ^ 16) = grind (arith, nat_tests) in let w = signed-word (n + (2 ^ 32 - 2 ^ 16)) (omega arith) in
      (rw e (grind (arith, ints)), rw e (grind (arith, ints))))
]

-- a word from 0 up to a bound
small_in : (h n : ℕ) → n ≤ h → h < 2 ^ 31 → (l : ℤ) → l ≤ℤ pos 0 → InRange (range l (pos h) 0) n
small_in h n le top l low =
    let r = signed-natural n (omega arith) in
    record { interval = record { low = rw r (omega (arith, ints)); high = rw r (omega (arith, ints)) }; aligned = any-word n }

pub loads_stay_in : LoadsStayIn
loads_stay_in = record {
  are = (refl, refl, refl, refl, refl);
  unsigned_bytes = λ n h. small_in 255 n (omega arith) (omega arith) (pos 0) (omega (arith, ints));
  unsigned_halves = λ n h. small_in 65535 n (omega arith) (omega arith) (pos 0) (omega (arith, ints));
  signed_bytes = λ n h. (let s = sign-byte n h in record { interval = record { low = s.0; high = s.1 }; aligned = any-word _ });
  signed_halves = λ n h. (let s = sign-half n h in record { interval = record { low = s.0; high = s.1 }; aligned = any-word _ });
  bytes_of_input = λ n h. small_in 255 n (omega arith) (omega arith) (negsuc 0) (omega (arith, ints));
  end_of_input = record { interval = record { low = omega (arith, ints); high = omega (arith, ints) }; aligned = refl };
}

pub wider_ends : (a b : Range) (w : ℕ) → is_within a b ≡ true → InInterval a w → InInterval b w
wider_ends a b w t s =
    let both = both_true (not (int_lt a.lo b.lo) && not (int_lt b.hi a.hi)) (nat_le b.alignment a.alignment) t in
    let ends = both_true (not (int_lt a.lo b.lo)) (not (int_lt b.hi a.hi)) both.0 in
    let l = not_less a.lo b.lo ends.0 in
    let h = not_less b.hi a.hi ends.1 in
    let low = s.low in
    let high = s.high in
    record { low = omega (arith, ints); high = omega (arith, ints) }
  where
    not_less : (x y : ℤ) → not (int_lt x y) ≡ true → y ≤ℤ x
    not_less x y h = grind (arith, ints)

pub wider : (a b : Range) (w : ℕ) → is_within a b ≡ true → InRange a w → InRange b w
wider a b w t s =
    let both = both_true (not (int_lt a.lo b.lo) && not (int_lt b.hi a.hi)) (nat_le b.alignment a.alignment) t in
    record { interval = wider_ends a b w t s.interval; aligned = aligned-fewer b.alignment a.alignment w (at_most b.alignment a.alignment both.1) s.aligned }
  where
    at_most : (j k : ℕ) → nat_le j k ≡ true → j ≤ k
    at_most j k h = grind (arith, nat_tests)
