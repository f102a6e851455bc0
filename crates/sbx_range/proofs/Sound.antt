-- Each result lies in the range of its operation: the laws, put together from the rows.
use Rattle.std.proofs.Common.{◌≡◌, ℕ, ◌-◌, ◌*◌, ◌%◌, ◌^◌, ◌<◌, Bool, true, false, refl, sym, ap, ◌∙◌, subst, arith, Some, None}
use Rattle.std.specs.Prelude.{◌&&◌, if◌then◌else◌, bit_xor}
use Rattle.std.proofs.lemmas.Nat.{mod_below, mul-le, or_lt}
use Rattle.v8_alu.specs.Icc.{Icc}
use Rattle.v8_alu.specs.Outcomes.{outcome, complement, tagged_of}
use Rattle.v8_alu.specs.Results.{high_word, signed_product, step_y}
use Rattle.v8_alu.specs.declared.AluOut.{AluOut}
use Rattle.v8_alu.specs.declared.Op.{Op}
use Rattle.v8_alu.specs.declared.Op.TheVariants.{Add, AddCc, Addx, AddxCc, Sub, SubCc, Subx, SubxCc, And, AndCc, Andn, AndnCc, Or, OrCc, Orn, OrnCc, Xor, XorCc}
use Rattle.v8_alu.specs.declared.Op.TheVariants.{Xnor, XnorCc, Sll, Srl, Sra, Umul, UmulCc, Smul, SmulCc, TaddCc, TsubCc, MulsCc}
use Rattle.sbx_image.specs.Range.{Range}
use Rattle.sbx_range.specs.Laws.{ResultsStayIn, SumsAreExact}
use Rattle.sbx_range.specs.Ranges.{InInterval, known, is_single, word_of}
use Rattle.sbx_range.specs.Table.{is_computed, no_codes, range_of, range_of_y, row_of}
use Rattle.sbx_range.proofs.Words.{both_true, by_test, in_all, in_known, single-word}
use Rattle.sbx_range.proofs.Additions.{in_range_add, in_range_sub, exact-sum, exact-difference}
use Rattle.sbx_range.proofs.Bitwise.{in_range_or, in_range_xor, in_range_and, in_range_andn}
use Rattle.sbx_range.proofs.Products.{in_range_smul, in_range_umul}
use Rattle.sbx_range.proofs.Shifted.{in_range_sll, in_range_srl, in_range_sra}
use Rattle.sbx_range.proofs.Multiples.{signed_product-below}

complement-word : (n : ℕ) → complement n < 2 ^ 32
complement-word n = omega arith

word : (n : ℕ) → n % 2 ^ 32 < 2 ^ 32
word n = mod_below n (2 ^ 32) (omega arith)

-- the row of an operation holds its results
in_row : (op : Op) (a b : Range) (x y : ℕ) (icc : Icc) (high : ℕ) → x < 2 ^ 32 → y < 2 ^ 32 → InInterval a x → InInterval b y → InInterval (row_of op a b) (outcome op x y icc high).value
unfolding row_of outcome
in_row Add a b x y icc high p q s u = in_range_add a b x y p q s u
in_row AddCc a b x y icc high p q s u = in_range_add a b x y p q s u
in_row TaddCc a b x y icc high p q s u = in_range_add a b x y p q s u
in_row Sub a b x y icc high p q s u = in_range_sub a b x y p q s u
in_row SubCc a b x y icc high p q s u = in_range_sub a b x y p q s u
in_row TsubCc a b x y icc high p q s u = in_range_sub a b x y p q s u
in_row Or a b x y icc high p q s u = in_range_or a b x y p q s u
in_row OrCc a b x y icc high p q s u = in_range_or a b x y p q s u
in_row Xor a b x y icc high p q s u = in_range_xor a b x y p q s u
in_row XorCc a b x y icc high p q s u = in_range_xor a b x y p q s u
in_row And a b x y icc high p q s u = in_range_and a b x y p q s u
in_row AndCc a b x y icc high p q s u = in_range_and a b x y p q s u
in_row Andn a b x y icc high p q s u = in_range_andn a b x y p s
in_row AndnCc a b x y icc high p q s u = in_range_andn a b x y p s
in_row Sll a b x y icc high p q s u = in_range_sll a b x y p q s u
in_row Srl a b x y icc high p q s u = in_range_srl a b x y p q s u
in_row Sra a b x y icc high p q s u = in_range_sra a b x y p q s u
in_row Smul a b x y icc high p q s u = in_range_smul a b x y s u
in_row SmulCc a b x y icc high p q s u = in_range_smul a b x y s u
in_row Umul a b x y icc high p q s u = in_range_umul a b x y p q s u
in_row UmulCc a b x y icc high p q s u = in_range_umul a b x y p q s u
in_row Addx a b x y icc high p q s u = in_all 0 _ (word _)
in_row AddxCc a b x y icc high p q s u = in_all 0 _ (word _)
in_row Subx a b x y icc high p q s u = in_all 0 _ (word _)
in_row SubxCc a b x y icc high p q s u = in_all 0 _ (word _)
in_row Orn a b x y icc high p q s u = in_all 0 _ (or_lt 32 x (complement y) p (complement-word y))
in_row OrnCc a b x y icc high p q s u = in_all 0 _ (or_lt 32 x (complement y) p (complement-word y))
in_row Xnor a b x y icc high p q s u = in_all 0 _ (complement-word (bit_xor x y))
in_row XnorCc a b x y icc high p q s u = in_all 0 _ (complement-word (bit_xor x y))
in_row MulsCc a b x y icc high p q s u = in_all 0 _ (word _)

-- the operations that are computed look at neither codes nor Y
value-same : (op : Op) (x y : ℕ) (icc : Icc) (high : ℕ) → is_computed op ≡ true → (outcome op x y no_codes 0).value ≡ (outcome op x y icc high).value
unfolding outcome
value-same Add x y icc high h = refl
value-same AddCc x y icc high h = refl
value-same Sub x y icc high h = refl
value-same SubCc x y icc high h = refl
value-same And x y icc high h = refl
value-same AndCc x y icc high h = refl
value-same Andn x y icc high h = refl
value-same AndnCc x y icc high h = refl
value-same Or x y icc high h = refl
value-same OrCc x y icc high h = refl
value-same Orn x y icc high h = refl
value-same OrnCc x y icc high h = refl
value-same Xor x y icc high h = refl
value-same XorCc x y icc high h = refl
value-same Xnor x y icc high h = refl
value-same XnorCc x y icc high h = refl
value-same Sll x y icc high h = refl
value-same Srl x y icc high h = refl
value-same Sra x y icc high h = refl
value-same TaddCc x y icc high h = absurd (cc)
value-same TsubCc x y icc high h = absurd (cc)
value-same Smul x y icc high h = absurd (cc)
value-same SmulCc x y icc high h = absurd (cc)
value-same Umul x y icc high h = absurd (cc)
value-same UmulCc x y icc high h = absurd (cc)
value-same Addx x y icc high h = absurd (cc)
value-same AddxCc x y icc high h = absurd (cc)
value-same Subx x y icc high h = absurd (cc)
value-same SubxCc x y icc high h = absurd (cc)
value-same MulsCc x y icc high h = absurd (cc)

-- the computed word of two known words is the result
pub computed-same : (op : Op) (a b : Range) (x y : ℕ) (icc : Icc) (high : ℕ) → x < 2 ^ 32 → y < 2 ^ 32 → InInterval a x → InInterval b y →
    is_computed op ≡ true → is_single a ≡ true → is_single b ≡ true
    → (outcome op (word_of a) (word_of b) no_codes 0).value ≡ (outcome op x y icc high).value
computed-same op a b x y icc high p q s u c t v =
    ap (λ n. (outcome op n (word_of b) no_codes 0).value) (single-word a x p t s)
    ∙ (ap (λ n. (outcome op x n no_codes 0).value) (single-word b y q v u) ∙ value-same op x y icc high c)

pub in_range_of : (op : Op) (a b : Range) (x y : ℕ) (icc : Icc) (high : ℕ) → x < 2 ^ 32 → y < 2 ^ 32 → InInterval a x → InInterval b y → InInterval (range_of op a b) (outcome op x y icc high).value
unfolding range_of
in_range_of op a b x y icc high p q s u =
    by_test (is_computed op && (is_single a && is_single b)) (λ r. InInterval r (outcome op x y icc high).value) _ _
    (λ t. let both = both_true (is_computed op) (is_single a && is_single b) t in
    let singles = both_true (is_single a) (is_single b) both.1 in
    subst (λ w. InInterval (known w) (outcome op x y icc high).value) (sym (computed-same op a b x y icc high p q s u both.0 singles.0 singles.1)) (in_known _))
    (λ _. in_row op a b x y icc high p q s u)

-- ---- Y

high-part : (n : ℕ) → n < 2 ^ 64 → high_word n < 2 ^ 32
high-part n h = omega arith

product-word : (x y : ℕ) → x < 2 ^ 32 → y < 2 ^ 32 → x * y < 2 ^ 64
product-word x y p q = let e = mul-le x y (2 ^ 32 - 1) (2 ^ 32 - 1) (omega arith) (omega arith) in omega arith

step-word : (x high : ℕ) → high < 2 ^ 32 → step_y x high < 2 ^ 32
step-word x high h = omega arith

pub y_in : (op : Op) (ys : Range) (x y : ℕ) (icc : Icc) (high : ℕ) → x < 2 ^ 32 → y < 2 ^ 32 → high < 2 ^ 32 → InInterval ys high → InInterval (range_of_y op ys) (outcome op x y icc high).y
unfolding outcome
y_in Add ys x y icc high p q r s = s
y_in AddCc ys x y icc high p q r s = s
y_in TaddCc ys x y icc high p q r s = s
y_in Sub ys x y icc high p q r s = s
y_in SubCc ys x y icc high p q r s = s
y_in TsubCc ys x y icc high p q r s = s
y_in Or ys x y icc high p q r s = s
y_in OrCc ys x y icc high p q r s = s
y_in Orn ys x y icc high p q r s = s
y_in OrnCc ys x y icc high p q r s = s
y_in Xor ys x y icc high p q r s = s
y_in XorCc ys x y icc high p q r s = s
y_in Xnor ys x y icc high p q r s = s
y_in XnorCc ys x y icc high p q r s = s
y_in And ys x y icc high p q r s = s
y_in AndCc ys x y icc high p q r s = s
y_in Andn ys x y icc high p q r s = s
y_in AndnCc ys x y icc high p q r s = s
y_in Sll ys x y icc high p q r s = s
y_in Srl ys x y icc high p q r s = s
y_in Sra ys x y icc high p q r s = s
y_in Addx ys x y icc high p q r s = s
y_in AddxCc ys x y icc high p q r s = s
y_in Subx ys x y icc high p q r s = s
y_in SubxCc ys x y icc high p q r s = s
y_in Smul ys x y icc high p q r s = in_all 0 _ (high-part (signed_product x y) (signed_product-below x y p q))
y_in SmulCc ys x y icc high p q r s = in_all 0 _ (high-part (signed_product x y) (signed_product-below x y p q))
y_in Umul ys x y icc high p q r s = in_all 0 _ (high-part (x * y) (product-word x y p q))
y_in UmulCc ys x y icc high p q r s = in_all 0 _ (high-part (x * y) (product-word x y p q))
y_in MulsCc ys x y icc high p q r s = in_all 0 _ (step-word x high r)

pub results_stay_in : ResultsStayIn
results_stay_in op a b ys x y icc high are h v =
    (in_range_of op a b x y icc high are.first_word are.second_word are.first are.second, y_in op ys x y icc high are.first_word are.second_word h v)

-- ---- the tagged operations that trap, sums and differences that are exact

some-same : (A : Type 0) (x y : A) → Some x ≡ Some y → x ≡ y
some-same A x y e = cc

pub tagged-value : (f : Icc) (high v : ℕ) (out : AluOut) → tagged_of f high v ≡ Some out → v ≡ out.value
tagged-value f high v out e = by_flag f.v e
  where
    by_flag : (t : Bool) → (if t then None else Some (record { value = v; icc = f; y = high })) ≡ Some out → v ≡ out.value
    by_flag true e = absurd (cc)
    by_flag false e = ap (λ (o : AluOut). o.value) (some-same AluOut _ _ e)

pub exact_sums : SumsAreExact
exact_sums a b x y are =
    (exact-sum a b x y are.first_word are.second_word are.first are.second, exact-difference a b x y are.first_word are.second_word are.first are.second)
