-- What is known of a result holds of it.
use Rattle.std.proofs.Common.{◌≡◌, ℕ, ◌^◌, ◌<◌, Bool, true, false, Option, Some, None, refl, sym, ap, ◌∙◌, subst, arith}
use Rattle.std.specs.Prelude.{◌==◌, if◌then◌else◌, bit_or, ℤ, pos, negsuc, ◌+ℤ◌, ◌-ℤ◌, ◌*ℤ◌, ◌≤ℤ◌}
use Rattle.std.specs.Int.Bits.{or_zero_l, or_zero_r}
use Rattle.std.proofs.lemmas.Bool.Decides.{Decides-eqb, Decides-int_eq}
use Rattle.std.proofs.lemmas.Int.{ints}
use Rattle.v8_word.specs.declared.Icc.{Icc}
use Rattle.v8_formats.specs.declared.instr.Operand.{Operand}
use Rattle.v8_formats.specs.declared.instr.Operand.TheVariants.{Register, Immediate}
use Rattle.v8_alu.specs.Outcomes.{outcome}
use Rattle.v8_alu.specs.Results.{signed}
use Rattle.v8_alu.specs.declared.Op.{Op}
use Rattle.v8_alu.specs.declared.Op.TheVariants.{Add, AddCc, Sub, SubCc, Or, OrCc}
use Rattle.v8_meaning.specs.Operands.{second}
use Rattle.sbx_image.specs.Range.{Range}
use Rattle.sbx_form.specs.Forms.{Cells, terms_value}
use Rattle.sbx_form.proofs.Values.{value-add_terms}
use Rattle.sbx_range.specs.Ranges.{InInterval, IsAligned, is_single, is_zero, known}
use Rattle.sbx_range.specs.Rows.{differences_fit, sums_fit}
use Rattle.sbx_range.specs.Table.{range_of}
use Rattle.sbx_range.proofs.Additions.{exact-difference, exact-sum}
use Rattle.sbx_range.proofs.Alignments.{of_range_of}
use Rattle.sbx_range.proofs.Multiples.{aligned-known}
use Rattle.sbx_range.proofs.Sound.{in_range_of}
use Rattle.sbx_range.proofs.Words.{in_known, is_zero-word}
use Rattle.sbx_domain.specs.declared.entry.Entry.{Entry}
use Rattle.sbx_domain.specs.Fits.{Fits, HasAlignment, HasForm, HasInterval, Near, Words}
use Rattle.sbx_domain.specs.Forms.{Form, combined, constant_form, form_value, is_kept}
use Rattle.sbx_domain.specs.Known.{Known, form_of_entry, range_of_entry}
use Rattle.sbx_domain.specs.Results.{constant_entry, copied_form, difference_form, entry_of_result, form_of, operand_entry, register_entry, result_of, sum_form}
use Rattle.sbx_fits.specs.Held.{IsOperand}

-- what is known of a word, but for multiples
pub record Has (start : Cells) (e : Option Entry) (w : ℕ) : Type 0 where
  pub interval : HasInterval (range_of_entry e) w
  pub form : HasForm start (form_of_entry e) w

-- ---- forms

constant_value : (start : Cells) (z : ℤ) → form_value start (constant_form z) ≡ z
unfolding form_value
constant_value start z = omega (arith, ints)

form_if : (t : Bool) (start : Cells) (f : Form) (w : ℕ) → form_value start f ≡ signed w → HasForm start (if t then Some f else None) w
form_if true start f w h = h
form_if false start f w h = tt

opposite_times : (z : ℤ) → negsuc 0 *ℤ z ≡ pos 0 -ℤ z
opposite_times z = omega (arith, ints)

one_times : (z : ℤ) → pos 1 *ℤ z ≡ z
one_times z = omega (arith, ints)

pub sum_of_forms : (start : Cells) (a b : Option Form) (x y v : ℕ) → HasForm start a x → HasForm start b y → signed v ≡ signed x +ℤ signed y → HasForm start (combined (pos 1) a b) v
unfolding form_value
sum_of_forms start (Some f) (Some g) x y v p q e =
    form_if (is_kept _) start _ v (
    let s = value-add_terms start (pos 1) f.terms g.terms in
    let a = one_times f.constant in
    let b = one_times (terms_value start f.terms) in
    omega (arith, ints))
sum_of_forms start (Some f) None x y v p q e = tt
sum_of_forms start None b x y v p q e = tt

pub difference_of_forms : (start : Cells) (a b : Option Form) (x y v : ℕ) → HasForm start a x → HasForm start b y → signed v ≡ signed y -ℤ signed x → HasForm start (combined (negsuc 0) a b) v
unfolding form_value
difference_of_forms start (Some f) (Some g) x y v p q e =
    form_if (is_kept _) start _ v (
    let s = value-add_terms start (negsuc 0) f.terms g.terms in
    let a = opposite_times f.constant in
    let b = opposite_times (terms_value start f.terms) in
    omega (arith, ints))
difference_of_forms start (Some f) None x y v p q e = tt
difference_of_forms start None b x y v p q e = tt

form_by : (t : Bool) (start : Cells) (f g : Option Form) (v : ℕ) → (t ≡ true → HasForm start f v) → (t ≡ false → HasForm start g v) → HasForm start (if t then f else g) v
form_by true start f g v p q = p refl
form_by false start f g v p q = q refl

sum_has : (start : Cells) (a b : Entry) (x y v : ℕ) → HasForm start a.form x → HasForm start b.form y →
    (sums_fit a.range b.range ≡ true → signed v ≡ signed x +ℤ signed y) → HasForm start (sum_form a b) v
sum_has start a b x y v p q e = form_by (sums_fit a.range b.range) start _ _ v (λ t. sum_of_forms start a.form b.form x y v p q (e t)) (λ t. tt)

difference_has : (start : Cells) (a b : Entry) (x y v : ℕ) → HasForm start a.form x → HasForm start b.form y →
    (differences_fit a.range b.range ≡ true → signed v ≡ signed x -ℤ signed y) → HasForm start (difference_form a b) v
difference_has start a b x y v p q e = form_by (differences_fit a.range b.range) start _ _ v (λ t. difference_of_forms start b.form a.form y x v q p (e t)) (λ t. tt)

copy_has : (start : Cells) (a b : Entry) (x y : ℕ) → x < 2 ^ 32 → y < 2 ^ 32 → InInterval a.range x → InInterval b.range y → HasForm start a.form x →
    HasForm start b.form y → HasForm start (copied_form a b) (bit_or x y)
copy_has start a b x y u w s r p q =
    form_by (is_zero a.range) start _ _ (bit_or x y)
    (λ t. let e : bit_or x y ≡ y = ap (λ n. bit_or n y) (is_zero-word a.range x u t s) ∙ or_zero_l y in subst (HasForm start b.form) (sym e) q)
    (λ f. form_by (is_zero b.range) start _ _ (bit_or x y)
    (λ t. let e : bit_or x y ≡ x = ap (λ n. bit_or x n) (is_zero-word b.range y w t r) ∙ or_zero_r x in subst (HasForm start a.form) (sym e) p)
    (λ t. tt))

form_has : (start : Cells) (op : Op) (a b : Entry) (x y : ℕ) (icc : Icc) (high : ℕ) → x < 2 ^ 32 → y < 2 ^ 32 → InInterval a.range x → InInterval b.range y →
    HasForm start a.form x → HasForm start b.form y
    → HasForm start (form_of op a b) (outcome op x y icc high).value
unfolding form_of outcome
form_has start Add a b x y icc high u w s r p q = sum_has start a b x y _ p q (exact-sum a.range b.range x y u w s r)
form_has start AddCc a b x y icc high u w s r p q = sum_has start a b x y _ p q (exact-sum a.range b.range x y u w s r)
form_has start Sub a b x y icc high u w s r p q = difference_has start a b x y _ p q (exact-difference a.range b.range x y u w s r)
form_has start SubCc a b x y icc high u w s r p q = difference_has start a b x y _ p q (exact-difference a.range b.range x y u w s r)
form_has start Or a b x y icc high u w s r p q = copy_has start a b x y u w s r p q
form_has start OrCc a b x y icc high u w s r p q = copy_has start a b x y u w s r p q
form_has start _ a b x y icc high u w s r p q = tt

single_value : (r : Range) (w : ℕ) → is_single r ≡ true → InInterval r w → r.lo ≡ signed w
single_value r w t s =
    let low : r.lo ≤ℤ signed w = s.low in
    let high : signed w ≤ℤ r.hi = s.high in
    let e : r.lo ≡ r.hi = (Decides-int_eq r.lo r.hi).0 t in
    omega (arith, ints)

-- a result, from its interval and its form
pub entry_has : (start : Cells) (r : Range) (f : Option Form) (w : ℕ) → InInterval r w → HasForm start f w → Has start (Some (entry_of_result r f)) w
entry_has start r f w s p = record {
  interval = s;
  form = form_by (is_single r) start (Some (constant_form r.lo)) f w (λ t. constant_value start r.lo ∙ single_value r w t s) (λ t. p);
}

-- ---- operands

pub constant_has : (start : Cells) (w : ℕ) → Has start (Some (constant_entry w)) w
constant_has start w = record { interval = in_known w; form = constant_value start (signed w) }

pub register_has : (start : Cells) (d : Known) (words : Words) (icc : Icc) (y r : ℕ) → Near start d words icc y → Has start (register_entry d r) (words r)
register_has start d words icc y r near = by_test (r == 0) refl
  where
    by_test : (t : Bool) → (r == 0) ≡ t → Has start (if t then Some (constant_entry 0) else d.entry r) (words r)
    by_test true h =
        let e : words r ≡ 0 = ap words ((Decides-eqb r 0).0 h) ∙ near.zero in
        subst (Has start (Some (constant_entry 0))) (sym e) (constant_has start 0)
    by_test false h = record { interval = near.intervals r; form = near.forms r }

pub operand_has : (start : Cells) (d : Known) (words : Words) (icc : Icc) (y : ℕ) (o : Operand) → Near start d words icc y → Has start (operand_entry d o) (second words o)
operand_has start d words icc y (Register r) near = register_has start d words icc y r near
operand_has start d words icc y (Immediate w) near = constant_has start w

pub operand_word : (words : Words) (o : Operand) → ((l : ℕ) → words l < 2 ^ 32) → IsOperand o → second words o < 2 ^ 32
operand_word words (Register r) are is = are r
operand_word words (Immediate w) are is = is

pub register_multiple : (start : Cells) (d : Known) (words : Words) (icc : Icc) (y r : ℕ) → Fits start d words icc y → HasAlignment (range_of_entry (register_entry d r)) (words r)
register_multiple start d words icc y r fits = by_test (r == 0) refl
  where
    by_test : (t : Bool) → (r == 0) ≡ t → HasAlignment (range_of_entry (if t then Some (constant_entry 0) else d.entry r)) (words r)
    by_test true h =
        let e : words r ≡ 0 = ap words ((Decides-eqb r 0).0 h) ∙ fits.near.zero in
        subst (IsAligned (known 0).alignment) (sym e) (aligned-known 0)
    by_test false h = fits.multiples r

pub operand_multiple : (start : Cells) (d : Known) (words : Words) (icc : Icc) (y : ℕ) (o : Operand) → Fits start d words icc y → HasAlignment (range_of_entry (operand_entry d o)) (second words o)
operand_multiple start d words icc y (Register r) fits = register_multiple start d words icc y r fits
operand_multiple start d words icc y (Immediate w) fits = aligned-known w

-- ---- results

pub result_has : (start : Cells) (op : Op) (a b : Option Entry) (x y : ℕ) (icc : Icc) (high : ℕ) → x < 2 ^ 32 → y < 2 ^ 32 → Has start a x → Has start b y
    → Has start (result_of op a b) (outcome op x y icc high).value
result_has start op (Some a) (Some b) x y icc high u w p q =
    entry_has start (range_of op a.range b.range) (form_of op a b) _ (in_range_of op a.range b.range x y icc high u w p.interval q.interval)
    (form_has start op a b x y icc high u w p.interval q.interval p.form q.form)
result_has start op (Some a) None x y icc high u w p q = record { interval = tt; form = tt }
result_has start op None b x y icc high u w p q = record { interval = tt; form = tt }

pub result_multiple : (start : Cells) (op : Op) (a b : Option Entry) (x y : ℕ) (icc : Icc) (high : ℕ) → x < 2 ^ 32 → y < 2 ^ 32 → Has start a x → Has start b y
    → HasAlignment (range_of_entry a) x → HasAlignment (range_of_entry b) y → HasAlignment (range_of_entry (result_of op a b)) (outcome op x y icc high).value
result_multiple start op (Some a) (Some b) x y icc high u w p q m n = of_range_of op a.range b.range x y icc high u w p.interval q.interval m n
result_multiple start op (Some a) None x y icc high u w p q m n = tt
result_multiple start op None b x y icc high u w p q m n = tt
