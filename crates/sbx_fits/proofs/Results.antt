-- After an operation that has a result for all operands.
use Rattle.std.proofs.Common.{◌≡◌, ℕ, ◌^◌, ◌<◌, Bool, true, false, Some, None, refl, sym, ap, ◌∙◌, subst, arith}
use Rattle.std.specs.Prelude.{◌==◌, not, nat_lt, if◌then◌else◌, bit_or, pos, ◌-ℤ◌}
use Rattle.std.specs.Int.Bits.{or_zero_l}
use Rattle.std.proofs.lemmas.Bool.Decides.{nat_tests, Decides-eqb}
use Rattle.std.proofs.lemmas.Int.{ints}
use Rattle.v8_word.specs.declared.Icc.{Icc}
use Rattle.v8_formats.specs.declared.instr.Operand.{Operand}
use Rattle.v8_formats.specs.declared.instr.Operand.TheVariants.{Register, Immediate}
use Rattle.v8_formats.specs.declared.instr.Three.{Three}
use Rattle.v8_alu.specs.Outcomes.{logic_codes, outcome}
use Rattle.v8_alu.specs.Results.{codes, difference, difference_codes, is_signed_word, signed}
use Rattle.v8_alu.specs.declared.Op.{Op}
use Rattle.v8_alu.specs.declared.Op.TheVariants as ops
use Rattle.v8_meaning.specs.declared.operation.Operation.TheVariants.{Compute}
use Rattle.v8_meaning.specs.Operands.{second}
use Rattle.sbx_form.specs.Forms.{Cells}
use Rattle.sbx_range.specs.Laws.{HasSigns}
use Rattle.sbx_range.specs.Ranges.{all}
use Rattle.sbx_range.specs.Table.{writes_y}
use Rattle.sbx_range.proofs.Words.{in_all, is_signed_word-from, signed-high, signed-low}
use Rattle.sbx_range.proofs.Alignments.{any-word}
use Rattle.sbx_domain.specs.Fits.{AreCodesOf, Fits, Near, Relates, Words, with_word, word_of_related}
use Rattle.sbx_domain.specs.Known.{Known, with_entry, with_y}
use Rattle.sbx_domain.specs.declared.relation.Relation.TheVariants.{Compared, Signs}
use Rattle.sbx_domain.specs.declared.relation.Related.TheVariants.{Location, Word}
use Rattle.sbx_domain.specs.Results.{operand_entry, register_entry, result_of}
use Rattle.sbx_domain.specs.Transfer.{compared, related_operand, related_register, relation_of, sets_codes, tells_signs, transferred, with_codes}
use Rattle.sbx_fits.specs.Held.{AreFields, Held, with_result}
use Rattle.sbx_fits.specs.Laws.{ResultsKeepFitting}
use Rattle.sbx_fits.proofs.Entries.{operand_has, operand_multiple, operand_word, register_has, register_multiple, result_has, result_multiple}
use Rattle.sbx_fits.proofs.Known.{fits_coded, fits_written, fits_y, near_coded, near_written, near_y}
use Rattle.sbx_fits.proofs.Small.{same_y, value_word, y_word}

-- ---- codes

same_codes : (op : Op) (a b : ℕ) (icc : Icc) (y : ℕ) → sets_codes op ≡ false → (outcome op a b icc y).icc ≡ icc
unfolding outcome
same_codes ops.AddCc a b icc y h = absurd (cc)
same_codes ops.AddxCc a b icc y h = absurd (cc)
same_codes ops.SubCc a b icc y h = absurd (cc)
same_codes ops.SubxCc a b icc y h = absurd (cc)
same_codes ops.AndCc a b icc y h = absurd (cc)
same_codes ops.AndnCc a b icc y h = absurd (cc)
same_codes ops.OrCc a b icc y h = absurd (cc)
same_codes ops.OrnCc a b icc y h = absurd (cc)
same_codes ops.XorCc a b icc y h = absurd (cc)
same_codes ops.XnorCc a b icc y h = absurd (cc)
same_codes ops.UmulCc a b icc y h = absurd (cc)
same_codes ops.SmulCc a b icc y h = absurd (cc)
same_codes ops.TaddCc a b icc y h = absurd (cc)
same_codes ops.TsubCc a b icc y h = absurd (cc)
same_codes ops.MulsCc a b icc y h = absurd (cc)
same_codes _ a b icc y h = refl

-- those of which Z and N are the result's
signs_tell : (op : Op) (a b : ℕ) (icc : Icc) (y : ℕ) → tells_signs op ≡ true → HasSigns (outcome op a b icc y).icc (outcome op a b icc y).value
unfolding outcome
signs_tell ops.AddCc a b icc y h = record { zero = refl; negative = refl }
signs_tell ops.SubCc a b icc y h = record { zero = refl; negative = refl }
signs_tell ops.AndCc a b icc y h = record { zero = refl; negative = refl }
signs_tell ops.AndnCc a b icc y h = record { zero = refl; negative = refl }
signs_tell ops.OrCc a b icc y h = record { zero = refl; negative = refl }
signs_tell ops.OrnCc a b icc y h = record { zero = refl; negative = refl }
signs_tell ops.XorCc a b icc y h = record { zero = refl; negative = refl }
signs_tell ops.XnorCc a b icc y h = record { zero = refl; negative = refl }
signs_tell _ a b icc y h = absurd (cc)

-- the codes of a word are those of it less 0
codes_of_word : (w : ℕ) → w < 2 ^ 32 → logic_codes w ≡ difference_codes w 0 false
codes_of_word w small =
    let same : w ≡ difference w 0 false = omega arith in
    let over : false ≡ not (is_signed_word (signed w)) = ap not (sym (is_signed_word-from (signed w) (signed-low w small) (signed-high w small))) in
    let none : false ≡ nat_lt w 0 = grind (arith, nat_tests) in
    let less : signed w ≡ (signed w -ℤ signed 0) -ℤ pos 0 = omega (arith, ints) in
    ap (λ v. codes v false false) same
    ∙ (ap (λ o. codes (difference w 0 false) o false) (over ∙ ap (λ z. not (is_signed_word z)) less)
    ∙ ap (λ c. codes (difference w 0 false) (difference_codes w 0 false).v c) none)

-- ---- the relation

word_of_register : (words : Words) (r : ℕ) → words 0 ≡ 0 → word_of_related words (related_register r) ≡ words r
word_of_register words r zero = by_test (r == 0) refl
  where
    by_test : (t : Bool) → (r == 0) ≡ t → word_of_related words (if t then Word 0 else Location r) ≡ words r
    by_test true h = sym zero ∙ ap words (sym ((Decides-eqb r 0).0 h))
    by_test false h = refl

word_of_operand : (words : Words) (o : Operand) → words 0 ≡ 0 → word_of_related words (related_operand o) ≡ second words o
word_of_operand words (Register r) zero = word_of_register words r zero
word_of_operand words (Immediate w) zero = refl

compared_relates : (op : Op) (f : Three) (words : Words) (icc : Icc) (y : ℕ) → words 0 ≡ 0 → words f.rs1 < 2 ^ 32 → second words f.operand2 < 2 ^ 32
    → Relates words (outcome op (words f.rs1) (second words f.operand2) icc y).icc (compared op f)
unfolding outcome
compared_relates ops.SubCc f words icc y zero p q = (
    let first = word_of_register words f.rs1 zero in
    let other = word_of_operand words f.operand2 zero in
    let a = words f.rs1 in
    let b = second words f.operand2 in
    subst (λ v. AreCodesOf (difference_codes a b false) v (word_of_related words (related_operand f.operand2))) (sym first)
    (subst (λ v. AreCodesOf (difference_codes a b false) a v) (sym other) (record { first = p; second = q; codes = refl })))
compared_relates ops.OrCc f words icc y zero p q = by_test (f.rs1 == 0) refl
  where
    a : ℕ
    a = words f.rs1

    b : ℕ
    b = second words f.operand2

    by_test : (t : Bool) → (f.rs1 == 0) ≡ t → Relates words (logic_codes (bit_or a b)) (if t then Some (Compared (related_operand f.operand2) (Word 0)) else None)
    by_test true h =
        let none : a ≡ 0 = ap words ((Decides-eqb f.rs1 0).0 h) ∙ zero in
        let e : bit_or a b ≡ b = ap (λ n. bit_or n b) none ∙ or_zero_l b in
        subst (λ v. AreCodesOf (logic_codes (bit_or a b)) v 0) (sym (word_of_operand words f.operand2 zero))
        (record { first = q; second = omega arith; codes = ap (λ v. logic_codes v) e ∙ codes_of_word b q })
    by_test false h = tt
compared_relates _ f words icc y zero p q = tt

unwritten : (l v : ℕ) (words : Words) → (l == 0) ≡ true → with_word l v words ≡ words
unwritten l v words h = ap (λ n. with_word n v words) ((Decides-eqb l 0).0 h)

here : (l v : ℕ) (words : Words) → (l == 0) ≡ false → l < 32 → with_word l v words l ≡ v
here l v words h small = grind (arith, nat_tests)

signs_if : (t : Bool) (words : Words) (now : Icc) (l : ℕ) → (t ≡ true → HasSigns now (words l)) → Relates words now (if t then Some (Signs l) else None)
signs_if true words now l h = h refl
signs_if false words now l h = tt

relates_after : (op : Op) (f : Three) (words : Words) (icc : Icc) (y : ℕ) → words 0 ≡ 0 → words f.rs1 < 2 ^ 32 → second words f.operand2 < 2 ^ 32 → f.rd < 32
    → (let out = outcome op (words f.rs1) (second words f.operand2) icc y in Relates (with_word f.rd out.value words) out.icc (relation_of op f))
relates_after op f words icc y zero p q small = by_test (f.rd == 0) refl
  where
    a : ℕ
    a = words f.rs1

    b : ℕ
    b = second words f.operand2

    now : Icc
    now = (outcome op a b icc y).icc

    v : ℕ
    v = (outcome op a b icc y).value

    by_test : (t : Bool) → (f.rd == 0) ≡ t → Relates (with_word f.rd v words) now (if t then compared op f else (if tells_signs op then Some (Signs f.rd) else None))
    by_test true h = subst (λ ws. Relates ws now (compared op f)) (sym (unwritten f.rd v words h)) (compared_relates op f words icc y zero p q)
    by_test false h = signs_if (tells_signs op) (with_word f.rd v words) now f.rd (λ t. subst (HasSigns now) (sym (here f.rd v words h small)) (signs_tell op a b icc y t))

-- ---- Y

near_product : (t : Bool) (start : Cells) (d : Known) (words : Words) (icc : Icc) (y now : ℕ) → now < 2 ^ 32 → (t ≡ false → now ≡ y)
    → Near start d words icc y → Near start (if t then with_y (Some (all 0)) d else d) words icc now
near_product true start d words icc y now small same near = near_y start d words icc y now (Some (all 0)) small (in_all 0 now small) near
near_product false start d words icc y now small same near = subst (λ n. Near start d words icc n) (sym (same refl)) near

fits_product : (t : Bool) (start : Cells) (d : Known) (words : Words) (icc : Icc) (y now : ℕ) → now < 2 ^ 32 → (t ≡ false → now ≡ y)
    → Fits start d words icc y → Fits start (if t then with_y (Some (all 0)) d else d) words icc now
fits_product true start d words icc y now small same fits = fits_y start d words icc y now (Some (all 0)) small (in_all 0 now small) (any-word now) fits
fits_product false start d words icc y now small same fits = subst (λ n. Fits start d words icc n) (sym (same refl)) fits

-- ---- the laws

near_result : (frame : ℕ) (op : Op) (f : Three) (d : Known) (h : Held) → AreFields f → (start : Cells) → Near start d h.words h.icc h.y
    → (let k = with_result f.rd (outcome op (h.words f.rs1) (second h.words f.operand2) h.icc h.y) h in Near start (transferred frame (Compute op f) d) k.words k.icc k.y)
unfolding transferred
near_result frame op f d h fields start near =
    let a = h.words f.rs1 in
    let b = second h.words f.operand2 in
    let out = outcome op a b h.icc h.y in
    let p : a < 2 ^ 32 = near.are_words f.rs1 in
    let q : b < 2 ^ 32 = operand_word h.words f.operand2 near.are_words fields.operand2 in
    let has = result_has start op (register_entry d f.rs1) (operand_entry d f.operand2) a b h.icc h.y p q (register_has start d h.words h.icc h.y f.rs1 near)
    (operand_has start d h.words h.icc h.y f.operand2 near) in
    let e = result_of op (register_entry d f.rs1) (operand_entry d f.operand2) in
    let wrote = near_written start d h.words h.icc h.y f.rd out.value e (value_word op a b h.icc h.y p q) has near in
    let coded = near_coded (sets_codes op) start (with_entry f.rd e d) (with_word f.rd out.value h.words) h.icc out.icc h.y (relation_of op f)
    (λ t. relates_after op f h.words h.icc h.y near.zero p q fields.rd) (λ t. same_codes op a b h.icc h.y t) wrote in
    near_product (writes_y op) start (with_codes (sets_codes op) (relation_of op f) (with_entry f.rd e d)) (with_word f.rd out.value h.words) out.icc h.y out.y
    (y_word op a b h.icc h.y p q near.y_word) (λ t. same_y op a b h.icc h.y t) coded

fits_result : (frame : ℕ) (op : Op) (f : Three) (d : Known) (h : Held) → AreFields f → (start : Cells) → Fits start d h.words h.icc h.y
    → (let k = with_result f.rd (outcome op (h.words f.rs1) (second h.words f.operand2) h.icc h.y) h in Fits start (transferred frame (Compute op f) d) k.words k.icc k.y)
unfolding transferred
fits_result frame op f d h fields start fits =
    let near = fits.near in
    let a = h.words f.rs1 in
    let b = second h.words f.operand2 in
    let out = outcome op a b h.icc h.y in
    let p : a < 2 ^ 32 = near.are_words f.rs1 in
    let q : b < 2 ^ 32 = operand_word h.words f.operand2 near.are_words fields.operand2 in
    let first = register_has start d h.words h.icc h.y f.rs1 near in
    let other = operand_has start d h.words h.icc h.y f.operand2 near in
    let x = register_entry d f.rs1 in
    let z = operand_entry d f.operand2 in
    let e = result_of op x z in
    let multiple = result_multiple start op x z a b h.icc h.y p q first other (register_multiple start d h.words h.icc h.y f.rs1 fits) (operand_multiple start d h.words h.icc h.y f.operand2 fits) in
    let wrote = fits_written start d h.words h.icc h.y f.rd out.value e (value_word op a b h.icc h.y p q) (result_has start op x z a b h.icc h.y p q first other) multiple fits in
    let coded = fits_coded (sets_codes op) start (with_entry f.rd e d) (with_word f.rd out.value h.words) h.icc out.icc h.y (relation_of op f)
    (λ t. relates_after op f h.words h.icc h.y near.zero p q fields.rd) (λ t. same_codes op a b h.icc h.y t) wrote in
    fits_product (writes_y op) start (with_codes (sets_codes op) (relation_of op f) (with_entry f.rd e d)) (with_word f.rd out.value h.words) out.icc h.y out.y
    (y_word op a b h.icc h.y p q near.y_word) (λ t. same_y op a b h.icc h.y t) coded

pub results_keep_fitting : ResultsKeepFitting
results_keep_fitting frame op f d h fields = record {
  near = λ start near. near_result frame op f d h fields start near;
  fits = λ start fits. fits_result frame op f d h fields start fits;
}
