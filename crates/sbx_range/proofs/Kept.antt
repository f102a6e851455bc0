-- Refinement loses no pair of words for which the condition holds, and leaves one edge at least.
use Rattle.std.proofs.Common.{◌≡◌, ◌≢◌, ℕ, ◌+◌, ◌^◌, ◌<◌, ◌≤◌, Bool, true, false, ◌||◌, refl, sym, ap, ◌∙◌, subst, arith, inl, inr, ◌⊎◌, Option, Some, None}
use Rattle.std.specs.Prelude.{◌==◌, not, if◌then◌else◌, ℤ, pos, ◌+ℤ◌, ◌-ℤ◌, ◌≤ℤ◌, ◌<ℤ◌}
use Rattle.std.specs.Int.{cast_unsigned, w32}
use Rattle.std.specs.Ordering.{int_eq}
use Rattle.std.proofs.lemmas.Bool.{cases_lt}
use Rattle.std.proofs.lemmas.Bool.Decides.{nat_tests, Decides-int_eq, Decides-eqb}
use Rattle.std.proofs.lemmas.Int.{ints, clamps, by_lt_z}
use Rattle.v8_alu.specs.Conditions.{holds}
use Rattle.v8_alu.specs.Icc.{Icc}
use Rattle.v8_alu.specs.Cond.{Cond}
use Rattle.v8_alu.specs.Cond.TheVariants.{Never, Equal, LessOrEqual, Less, LessOrEqualUnsigned, CarrySet, Negative, OverflowSet, Always, NotEqual, Greater}
use Rattle.v8_alu.specs.Cond.TheVariants.{GreaterOrEqual, GreaterUnsigned, CarryClear, Positive, OverflowClear}
use Rattle.v8_alu.specs.Results.{signed, codes, difference_codes}
use Rattle.sbx_image.specs.Range.{Range}
use Rattle.sbx_range.specs.declared.refining.Pair.{Pair}
use Rattle.sbx_range.specs.Laws.{HasSigns, IsRange, KeepsBoth, OneEdgeIsLeft, RefinementKeepsPairs, RefinementKeepsWords, WordsStayIn, is_some}
use Rattle.sbx_range.specs.Ranges.{InInterval, IsAligned, both_natural, is_empty, is_natural, is_single, known, range}
use Rattle.sbx_range.specs.Refining.{above_unsigned, below, below_unsigned, both_of, common, from_zero, left_below, lowered, narrowed, narrowed_by_value}
use Rattle.sbx_range.specs.Refining.{opposite, pair, raised, refine, refine_by_value, right_below, some_pair, some_range, turned, without}
use Rattle.sbx_range.proofs.Words.{both_true, by_test, in_known, natural-word, signed-natural, signed-written, written-below}
use Rattle.sbx_range.proofs.Multiples.{aligned-known}
use Rattle.sbx_range.proofs.Alignments.{of_max, wider, wider_ends}
use Rattle.sbx_range.proofs.Compared.{carry-denies, carry-says, either-true, less-denies, less-says, neither, not-true, sign-false, sign-true, word-same, zero-denies, zero-says}

-- ---- each way to narrow keeps the words of which its relation holds

keeps-below : (d : ℕ) (a b : Range) (x y : ℕ) → InInterval a x → InInterval b y → (signed x +ℤ pos d) ≤ℤ signed y → KeepsBoth (below d a b) x y
unfolding below left_below right_below
keeps-below d a b x y s u le =
    let l = s.low in let h = s.high in let m = u.low in let k = u.high in
    record {
      left = record { low = s.low; high = omega (arith, ints, clamps) };
      right = record { low = omega (arith, ints, clamps); high = u.high };
    }

keeps-turned : (p : Pair) (x y : ℕ) → KeepsBoth p y x → KeepsBoth (turned p) x y
keeps-turned p x y k = record { left = k.right; right = k.left }

pub keeps-common : (a b : Range) (x : ℕ) → InInterval a x → InInterval b x → InInterval (common a b) x
unfolding common
keeps-common a b x s u =
    let l = s.low in let h = s.high in let m = u.low in let k = u.high in
    record { low = omega (arith, ints, clamps); high = omega (arith, ints, clamps) }

elim_pair : (t : Bool) (P : Pair → Type 0) (r s : Pair) → (t ≡ true → P r) → (t ≡ false → P s) → P (if t then r else s)
elim_pair true P r s when_true when_false = when_true refl
elim_pair false P r s when_true when_false = when_false refl

keeps-below_unsigned : (d : ℕ) (a b : Range) (x y : ℕ) → y < 2 ^ 32 → InInterval a x → InInterval b y → x + d ≤ y → KeepsBoth (below_unsigned d a b) x y
unfolding below_unsigned
keeps-below_unsigned d a b x y q s u le =
    elim_pair (is_natural b.lo) (λ r. KeepsBoth r x y) (below d (from_zero a) b) (pair a b)
    (λ t. let small = natural-word b.lo y q t u.low in
    let rx : signed x ≡ pos x = signed-natural x (omega arith) in
    let ry : signed y ≡ pos y = signed-natural y small in
    let l = s.low in
    keeps-below d (from_zero a) b x y (record { low = omega (arith, ints, clamps); high = s.high }) u (omega (arith, ints)))
    (λ _. record { left = s; right = u })

keeps-above_unsigned : (d : ℕ) (a b : Range) (x y : ℕ) → x < 2 ^ 32 → y < 2 ^ 32 → InInterval a x → InInterval b y → y + d ≤ x → KeepsBoth (above_unsigned d a b) x y
unfolding above_unsigned
keeps-above_unsigned d a b x y p q s u le =
    elim_pair (both_natural a b) (λ r. KeepsBoth r x y) (turned (below d b a)) (pair a b)
    (λ t. let both = both_true (is_natural a.lo) (is_natural b.lo) t in
    let rx : signed x ≡ pos x = signed-natural x (natural-word a.lo x p both.0 s.low) in
    let ry : signed y ≡ pos y = signed-natural y (natural-word b.lo y q both.1 u.low) in
    keeps-turned (below d b a) x y (keeps-below d b a y x u s (omega (arith, ints))))
    (λ _. record { left = s; right = u })

by_case : (t : Bool) (P : ℤ → Type 0) (r s : ℤ) → (t ≡ true → P r) → (t ≡ false → P s) → P (if t then r else s)
by_case true P r s when_true when_false = when_true refl
by_case false P r s when_true when_false = when_false refl

cases_le_z : (a b : ℤ) → (a ≤ℤ b) ⊎ (b <ℤ a)
cases_le_z a b = by_lt_z {P = (a ≤ℤ b) ⊎ (b <ℤ a)} b a (λ h. inr h) (λ h. inl h)

above-unequal : (l m z : ℤ) → l ≡ m → l ≤ℤ z → z ≢ m → (l +ℤ pos 1) ≤ℤ z
above-unequal l m z e le apart = elim (cases_le_z (l +ℤ pos 1) z) [ inl h ↦ h | inr h ↦ absurd (apart (omega (arith, ints))) ]

below-unequal : (h m z : ℤ) → h ≡ m → z ≤ℤ h → z ≢ m → z ≤ℤ (h -ℤ pos 1)
below-unequal h m z e le apart = elim (cases_le_z z (h -ℤ pos 1)) [ inl g ↦ g | inr g ↦ absurd (apart (omega (arith, ints))) ]

keeps-without : (a b : Range) (x y : ℕ) → InInterval a x → InInterval b y → signed x ≢ signed y → InInterval (without a b) x
unfolding without
keeps-without a b x y s u apart =
    by_test (is_single b) (λ r. InInterval r x) _ _
    (λ t. let e : b.lo ≡ b.hi = (Decides-int_eq b.lo b.hi).0 t in
    let ul = u.low in let uh = u.high in
    let m : signed y ≡ b.lo = omega (arith, ints) in
    let apart_here : signed x ≢ b.lo = λ g. apart (g ∙ sym m) in
    record {
      low = by_case (int_eq a.lo b.lo) (λ z. z ≤ℤ signed x) _ _ (λ g. above-unequal a.lo b.lo (signed x) ((Decides-int_eq a.lo b.lo).0 g) s.low apart_here) (λ _. s.low);
      high = by_case (int_eq a.hi b.lo) (λ z. signed x ≤ℤ z) _ _ (λ g. below-unequal a.hi b.lo (signed x) ((Decides-int_eq a.hi b.lo).0 g) s.high apart_here) (λ _. s.high);
    })
    (λ _. s)

-- ---- by conditions

keeps-equal : (a b : Range) (x y : ℕ) → InInterval a x → InInterval b y → x ≡ y → KeepsBoth (pair (common a b) (common a b)) x y
keeps-equal a b x y s u e =
    let l = keeps-common a b x s (subst (InInterval b) (sym e) u) in
    record { left = l; right = subst (InInterval (common a b)) e l }

signed-apart : (x y : ℕ) → x < 2 ^ 32 → y < 2 ^ 32 → x ≢ y → signed x ≢ signed y
signed-apart x y p q apart e = apart (word-same x y p q e)

keeps-unequal : (a b : Range) (x y : ℕ) → x < 2 ^ 32 → y < 2 ^ 32 → InInterval a x → InInterval b y → x ≢ y → KeepsBoth (pair (without a b) (without b a)) x y
keeps-unequal a b x y p q s u apart =
    let z = signed-apart x y p q apart in
    record { left = keeps-without a b x y s u z; right = keeps-without b a y x u s (λ e. z (sym e)) }

order-kept : (x y : ℕ) → x ≡ y → signed x ≤ℤ signed y
order-kept x y e = let g = ap signed e in omega (arith, ints)

le-says : (x y : ℕ) → x < 2 ^ 32 → y < 2 ^ 32 → holds LessOrEqual (difference_codes x y false) ≡ true → signed x ≤ℤ signed y
le-says x y p q h = elim (either-true (difference_codes x y false).z (holds Less (difference_codes x y false)) h) [
  | inl z ↦ order-kept x y (zero-says x y p q z)
  | inr l ↦ (let g = less-says x y p q l in omega (arith, ints))
]

strict : (v w : ℤ) → v ≤ℤ w → v ≢ w → (v +ℤ pos 1) ≤ℤ w
strict v w le apart = elim (cases_le_z (v +ℤ pos 1) w) [ inl h ↦ h | inr h ↦ absurd (apart (omega (arith, ints))) ]

greater-says : (x y : ℕ) → x < 2 ^ 32 → y < 2 ^ 32 → holds Greater (difference_codes x y false) ≡ true → (signed y +ℤ pos 1) ≤ℤ signed x
greater-says x y p q h =
    let n = neither (difference_codes x y false).z (holds Less (difference_codes x y false)) (not-true _ h) in
    let z = signed-apart x y p q (zero-denies x y p q n.0) in
    strict (signed y) (signed x) (less-denies x y p q n.1) (λ e. z (sym e))

leu-says : (x y : ℕ) → x < 2 ^ 32 → y < 2 ^ 32 → holds LessOrEqualUnsigned (difference_codes x y false) ≡ true → x + 0 ≤ y
leu-says x y p q h = elim (either-true (difference_codes x y false).c (difference_codes x y false).z h) [
  | inl c ↦ (let g = carry-says x y c in omega arith)
  | inr z ↦ (let e = zero-says x y p q z in omega arith)
]

gu-says : (x y : ℕ) → x < 2 ^ 32 → y < 2 ^ 32 → holds GreaterUnsigned (difference_codes x y false) ≡ true → y + 1 ≤ x
gu-says x y p q h =
    let n = neither (difference_codes x y false).c (difference_codes x y false).z (not-true _ h) in
    let le = carry-denies x y n.0 in
    let apart = zero-denies x y p q n.1 in
    apart-le x y le apart
  where
    apart-le : (x y : ℕ) → y ≤ x → x ≢ y → y + 1 ≤ x
    apart-le x y le apart = elim (cases_lt y x) [ inl h ↦ omega arith | inr h ↦ absurd (apart (omega arith)) ]

pub keeps-narrowed : (cond : Cond) (a b : Range) (x y : ℕ) → x < 2 ^ 32 → y < 2 ^ 32 → InInterval a x → InInterval b y →
    holds cond (difference_codes x y false) ≡ true → KeepsBoth (narrowed cond a b) x y
unfolding narrowed
keeps-narrowed Equal a b x y p q s u h = keeps-equal a b x y s u (zero-says x y p q h)
keeps-narrowed NotEqual a b x y p q s u h = keeps-unequal a b x y p q s u (zero-denies x y p q (not-true _ h))
keeps-narrowed Less a b x y p q s u h = let l = less-says x y p q h in keeps-below 1 a b x y s u (omega (arith, ints))
keeps-narrowed LessOrEqual a b x y p q s u h = let l = le-says x y p q h in keeps-below 0 a b x y s u (omega (arith, ints))
keeps-narrowed Greater a b x y p q s u h = keeps-turned (below 1 b a) x y (keeps-below 1 b a y x u s (greater-says x y p q h))
keeps-narrowed GreaterOrEqual a b x y p q s u h = let l = less-denies x y p q (not-true _ h) in keeps-turned (below 0 b a) x y (keeps-below 0 b a y x u s (omega (arith, ints)))
keeps-narrowed CarrySet a b x y p q s u h = let l = carry-says x y h in keeps-below_unsigned 1 a b x y q s u (omega arith)
keeps-narrowed LessOrEqualUnsigned a b x y p q s u h = keeps-below_unsigned 0 a b x y q s u (leu-says x y p q h)
keeps-narrowed CarryClear a b x y p q s u h = let l = carry-denies x y (not-true _ h) in keeps-above_unsigned 0 a b x y p q s u (omega arith)
keeps-narrowed GreaterUnsigned a b x y p q s u h = keeps-above_unsigned 1 a b x y p q s u (gu-says x y p q h)
keeps-narrowed Never a b x y p q s u h = record { left = s; right = u }
keeps-narrowed Always a b x y p q s u h = record { left = s; right = u }
keeps-narrowed Negative a b x y p q s u h = record { left = s; right = u }
keeps-narrowed Positive a b x y p q s u h = record { left = s; right = u }
keeps-narrowed OverflowSet a b x y p q s u h = record { left = s; right = u }
keeps-narrowed OverflowClear a b x y p q s u h = record { left = s; right = u }

-- ---- alignments

-- two words are multiples of what two ranges ask for
pub record AreMultiples (p : Pair) (x y : ℕ) : Type 0 where
  pub left : IsAligned p.left.alignment x
  pub right : IsAligned p.right.alignment y

without-aligned : (a b : Range) (x : ℕ) → IsAligned a.alignment x → IsAligned (without a b).alignment x
unfolding without
without-aligned a b x h = by_test (is_single b) (λ r. IsAligned r.alignment x) (range (raised a.lo b.lo) (lowered a.hi b.lo) a.alignment) a (λ _. h) (λ _. h)

common-aligned : (a b : Range) (x : ℕ) → IsAligned a.alignment x → IsAligned b.alignment x → IsAligned (common a b).alignment x
unfolding common
common-aligned a b x h g = of_max a.alignment b.alignment x h g

equal-aligned : (a b : Range) (x y : ℕ) → x ≡ y → IsAligned a.alignment x → IsAligned b.alignment y → AreMultiples (pair (common a b) (common a b)) x y
equal-aligned a b x y e h g =
    let l = common-aligned a b x h (subst (IsAligned b.alignment) (sym e) g) in
    record { left = l; right = subst (IsAligned (common a b).alignment) e l }

below-aligned : (d : ℕ) (a b : Range) (x y : ℕ) → IsAligned a.alignment x → IsAligned b.alignment y → AreMultiples (below d a b) x y
unfolding below left_below right_below
below-aligned d a b x y h g = record { left = h; right = g }

turned-aligned : (p : Pair) (x y : ℕ) → AreMultiples p y x → AreMultiples (turned p) x y
turned-aligned p x y k = record { left = k.right; right = k.left }

below_unsigned-aligned : (d : ℕ) (a b : Range) (x y : ℕ) → IsAligned a.alignment x → IsAligned b.alignment y → AreMultiples (below_unsigned d a b) x y
unfolding below_unsigned
below_unsigned-aligned d a b x y h g =
    elim_pair (is_natural b.lo) (λ r. AreMultiples r x y) (below d (from_zero a) b) (pair a b)
    (λ _. below-aligned d (from_zero a) b x y h g) (λ _. record { left = h; right = g })

above_unsigned-aligned : (d : ℕ) (a b : Range) (x y : ℕ) → IsAligned a.alignment x → IsAligned b.alignment y → AreMultiples (above_unsigned d a b) x y
unfolding above_unsigned
above_unsigned-aligned d a b x y h g =
    elim_pair (both_natural a b) (λ r. AreMultiples r x y) (turned (below d b a)) (pair a b)
    (λ _. turned-aligned (below d b a) x y (below-aligned d b a y x g h)) (λ _. record { left = h; right = g })

narrowed-aligned : (cond : Cond) (a b : Range) (x y : ℕ) → x < 2 ^ 32 → y < 2 ^ 32 → holds cond (difference_codes x y false) ≡ true → IsAligned a.alignment x →
    IsAligned b.alignment y → AreMultiples (narrowed cond a b) x y
unfolding narrowed
narrowed-aligned Equal a b x y p q t h g = equal-aligned a b x y (zero-says x y p q t) h g
narrowed-aligned NotEqual a b x y p q t h g = record { left = without-aligned a b x h; right = without-aligned b a y g }
narrowed-aligned Less a b x y p q t h g = below-aligned 1 a b x y h g
narrowed-aligned LessOrEqual a b x y p q t h g = below-aligned 0 a b x y h g
narrowed-aligned Greater a b x y p q t h g = turned-aligned (below 1 b a) x y (below-aligned 1 b a y x g h)
narrowed-aligned GreaterOrEqual a b x y p q t h g = turned-aligned (below 0 b a) x y (below-aligned 0 b a y x g h)
narrowed-aligned CarrySet a b x y p q t h g = below_unsigned-aligned 1 a b x y h g
narrowed-aligned LessOrEqualUnsigned a b x y p q t h g = below_unsigned-aligned 0 a b x y h g
narrowed-aligned CarryClear a b x y p q t h g = above_unsigned-aligned 0 a b x y h g
narrowed-aligned GreaterUnsigned a b x y p q t h g = above_unsigned-aligned 1 a b x y h g
narrowed-aligned Never a b x y p q t h g = record { left = h; right = g }
narrowed-aligned Always a b x y p q t h g = record { left = h; right = g }
narrowed-aligned Negative a b x y p q t h g = record { left = h; right = g }
narrowed-aligned Positive a b x y p q t h g = record { left = h; right = g }
narrowed-aligned OverflowSet a b x y p q t h g = record { left = h; right = g }
narrowed-aligned OverflowClear a b x y p q t h g = record { left = h; right = g }

-- ---- a range with a word is not empty

pub some-word : (a : Range) (x : ℕ) → InInterval a x → some_range a ≡ Some a
unfolding some_range
some-word a x s =
    let l = s.low in let h = s.high in
    let e : is_empty a ≡ false = grind (arith, ints) in
    ap (λ (t : Bool). if t then None else Some a) e

pub refine-some : (cond : Cond) (a b : Range) (x y : ℕ) → KeepsBoth (narrowed cond a b) x y → refine cond a b ≡ Some (narrowed cond a b)
unfolding refine some_pair both_of
refine-some cond a b x y k =
    ap (λ o. both_of o (some_range (narrowed cond a b).right)) (some-word (narrowed cond a b).left x k.left)
    ∙ ap (λ o. both_of (Some (narrowed cond a b).left) o) (some-word (narrowed cond a b).right y k.right)

pub refinement_keeps_pairs : RefinementKeepsPairs
refinement_keeps_pairs cond a b x y are t =
    let k = keeps-narrowed cond a b x y are.first_word are.second_word are.first are.second t in
    (refine-some cond a b x y k, k, λ h g. (let m = narrowed-aligned cond a b x y are.first_word are.second_word t h g in (m.left, m.right)))

-- ---- by value

is-zero : (x : ℕ) (f : Icc) → HasSigns f x → f.z ≡ true → x ≡ 0
is-zero x f signs t = (Decides-eqb x 0).0 (sym signs.zero ∙ t)

not-zero : (x : ℕ) (f : Icc) → HasSigns f x → f.z ≡ false → x ≢ 0
not-zero x f signs t = unequal x (sym signs.zero ∙ t)
  where
    unequal : (n : ℕ) → (n == 0) ≡ false → n ≢ 0
    unequal n h e = grind (arith, nat_tests)

keeps-zero : (a : Range) (x : ℕ) → x ≡ 0 → InInterval a x → InInterval (common a (known 0)) x
keeps-zero a x e s = keeps-common a (known 0) x s (subst (InInterval (known 0)) (sym e) (in_known 0))

keeps-value : (cond : Cond) (a : Range) (x : ℕ) (f : Icc) → x < 2 ^ 32 → InInterval a x → HasSigns f x → holds cond f ≡ true → InInterval (narrowed_by_value cond a) x
unfolding narrowed_by_value
keeps-value Equal a x f p s signs t = keeps-zero a x (is-zero x f signs t) s
keeps-value NotEqual a x f p s signs t = keeps-without a (known 0) x 0 s (in_known 0) (signed-apart x 0 p (omega arith) (not-zero x f signs (not-true _ t)))
keeps-value Negative a x f p s signs t =
    let h = s.high in
    let n = sign-true x p (sym signs.negative ∙ t) in
    record { low = s.low; high = omega (arith, ints, clamps) }
keeps-value Positive a x f p s signs t =
    let l = s.low in
    let n = sign-false x p (sym signs.negative ∙ not-true _ t) in
    record { low = omega (arith, ints, clamps); high = s.high }
keeps-value Less a x f p s signs t = s
keeps-value LessOrEqual a x f p s signs t = s
keeps-value Greater a x f p s signs t = s
keeps-value GreaterOrEqual a x f p s signs t = s
keeps-value CarrySet a x f p s signs t = s
keeps-value LessOrEqualUnsigned a x f p s signs t = s
keeps-value CarryClear a x f p s signs t = s
keeps-value GreaterUnsigned a x f p s signs t = s
keeps-value Never a x f p s signs t = s
keeps-value Always a x f p s signs t = s
keeps-value OverflowSet a x f p s signs t = s
keeps-value OverflowClear a x f p s signs t = s

value-aligned : (cond : Cond) (a : Range) (x : ℕ) (f : Icc) → HasSigns f x → holds cond f ≡ true → IsAligned a.alignment x → IsAligned (narrowed_by_value cond a).alignment x
unfolding narrowed_by_value
value-aligned Equal a x f signs t h = common-aligned a (known 0) x h (subst (IsAligned 3) (sym (is-zero x f signs t)) refl)
value-aligned NotEqual a x f signs t h = without-aligned a (known 0) x h
value-aligned Negative a x f signs t h = h
value-aligned Positive a x f signs t h = h
value-aligned Less a x f signs t h = h
value-aligned LessOrEqual a x f signs t h = h
value-aligned Greater a x f signs t h = h
value-aligned GreaterOrEqual a x f signs t h = h
value-aligned CarrySet a x f signs t h = h
value-aligned LessOrEqualUnsigned a x f signs t h = h
value-aligned CarryClear a x f signs t h = h
value-aligned GreaterUnsigned a x f signs t h = h
value-aligned Never a x f signs t h = h
value-aligned Always a x f signs t h = h
value-aligned OverflowSet a x f signs t h = h
value-aligned OverflowClear a x f signs t h = h

pub refinement_keeps_words : RefinementKeepsWords
unfolding refine_by_value
refinement_keeps_words cond a x f p s signs t =
    let k = keeps-value cond a x f p s signs t in
    (some-word (narrowed_by_value cond a) x k, k, λ h. value-aligned cond a x f signs t h)

-- ---- one edge is left

not-not : (t : Bool) → t ≡ not (not t)
not-not true = refl
not-not false = refl

pub holds-opposite : (c : Cond) (f : Icc) → holds (opposite c) f ≡ not (holds c f)
holds-opposite Never f = refl
holds-opposite Equal f = refl
holds-opposite LessOrEqual f = refl
holds-opposite Less f = refl
holds-opposite LessOrEqualUnsigned f = refl
holds-opposite CarrySet f = refl
holds-opposite Negative f = refl
holds-opposite OverflowSet f = refl
holds-opposite Always f = refl
holds-opposite NotEqual f = not-not f.z
holds-opposite Greater f = not-not _
holds-opposite GreaterOrEqual f = not-not _
holds-opposite GreaterUnsigned f = not-not _
holds-opposite CarryClear f = not-not f.c
holds-opposite Positive f = not-not f.n
holds-opposite OverflowClear f = not-not f.v

-- the lower end of a range is one of its words
low-word : (a : Range) → IsRange a → InInterval a (cast_unsigned w32 a.lo) × (cast_unsigned w32 a.lo < 2 ^ 32)
low-word a is =
    let l = is.low in let h = is.high in let s = is.some in
    let top : a.lo ≤ℤ pos 2147483647 = omega (arith, ints) in
    let e = signed-written a.lo is.low top in
    (record { low = rw e (omega (arith, ints)); high = rw e s }, written-below a.lo is.low top)

some-is : (A : Type 0) (o : Option A) (x : A) → o ≡ Some x → is_some A o ≡ true
some-is A o x e = ap (is_some A) e

or-right : (t u : Bool) → u ≡ true → t || u ≡ true
or-right true u h = refl
or-right false u h = h

left-edge : (t u v : Bool) → (v ≡ true → t ≡ true) → (not v ≡ true → u ≡ true) → t || u ≡ true
left-edge t u true f g = ap (λ b. b || u) (f refl)
left-edge t u false f g = or-right t u (g refl)

compared-edge : (cond : Cond) (a b : Range) → IsRange a → IsRange b → (is_some Pair (refine cond a b) || is_some Pair (refine (opposite cond) a b)) ≡ true
compared-edge cond a b r s =
    let x : ℕ = cast_unsigned w32 a.lo in
    let y : ℕ = cast_unsigned w32 b.lo in
    let i = low-word a r in
    let j = low-word b s in
    left-edge _ _ (holds cond (difference_codes (cast_unsigned w32 a.lo) (cast_unsigned w32 b.lo) false))
    (λ t. some-is Pair _ _ (refine-some cond a b _ _ (keeps-narrowed cond a b (cast_unsigned w32 a.lo) (cast_unsigned w32 b.lo) i.1 j.1 i.0 j.0 t)))
    (λ t. some-is Pair _ _ (refine-some (opposite cond) a b _ _ (keeps-narrowed (opposite cond) a b (cast_unsigned w32 a.lo) (cast_unsigned w32 b.lo) i.1 j.1 i.0 j.0 (holds-opposite cond _ ∙ t))))

value-edge : (cond : Cond) (a : Range) → IsRange a → (is_some Range (refine_by_value cond a) || is_some Range (refine_by_value (opposite cond) a)) ≡ true
unfolding refine_by_value
value-edge cond a r =
    let i = low-word a r in
    let f : Icc = codes (cast_unsigned w32 a.lo) false false in
    let signs : HasSigns (codes (cast_unsigned w32 a.lo) false false) (cast_unsigned w32 a.lo) = record { zero = refl; negative = refl } in
    left-edge _ _ (holds cond (codes (cast_unsigned w32 a.lo) false false))
    (λ t. some-is Range _ _ (some-word (narrowed_by_value cond a) (cast_unsigned w32 a.lo) (keeps-value cond a (cast_unsigned w32 a.lo) _ i.1 i.0 signs t)))
    (λ t. some-is Range _ _
    (some-word (narrowed_by_value (opposite cond) a) (cast_unsigned w32 a.lo)
    (keeps-value (opposite cond) a (cast_unsigned w32 a.lo) _ i.1 i.0 signs (holds-opposite cond _ ∙ t))))

pub one_edge_is_left : OneEdgeIsLeft
one_edge_is_left = record { denies = holds-opposite; compared = compared-edge; by_value = value-edge }

-- ---- words and ranges

pub words_stay_in : WordsStayIn
words_stay_in = record {
  of_known = λ w. record { interval = in_known w; aligned = aligned-known w };
  of_common = λ a b w s u. (let k = keeps-common a b w s u in (k, some-word (common a b) w k));
  of_common_alignment = common-aligned;
  of_wider = wider;
  of_wider_interval = wider_ends;
}
