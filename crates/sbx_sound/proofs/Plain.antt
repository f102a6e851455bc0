-- Plain words: the results that every pair of operands has.
use Rattle.sbx_image.specs.Range.{Range}
use Rattle.sbx_sound.proofs.Written.{entry_codes, entry_y, fits_shown, more_tests, other_defined, other_word}
use Rattle.sbx_fits.proofs.Results.{results_keep_fitting}
use Rattle.sbx_fits.specs.Held.{AreFields, Held}
use Rattle.sbx_range.specs.Ranges.{all}
use Rattle.sbx_range.specs.Table.{writes_y}
use Rattle.std.proofs.Common.{◌≡◌, ◌≢◌, ℕ, ◌<◌, Bool, true, false, Option, Some, None, refl, sym, ap, ◌∙◌, subst, arith}
use Rattle.std.specs.Prelude.{◌==◌, ◌&&◌, ◌||◌, not, if◌then◌else◌}
use Rattle.std.proofs.lemmas.Bool.Decides.{nat_tests}
use Rattle.v8_word.specs.declared.Icc.{Icc}
use Rattle.v8_formats.specs.declared.instr.Three.{Three}
use Rattle.v8_alu.specs.declared.AluOut.{AluOut}
use Rattle.v8_alu.specs.declared.Op.{Op}
use Rattle.v8_alu.specs.Outcomes.{outcome}
use Rattle.v8_meaning.specs.declared.operation.Operation.TheVariants.{Compute}
use Rattle.v8_meaning.specs.Operands.{second}
use Rattle.sbx_image.specs.Parts.{Parts}
use Rattle.sbx_flat.specs.Effects.{does, operand_value, writes, writes_result}
use Rattle.sbx_flat.specs.Runs.{reached_by}
use Rattle.sbx_flat.specs.States.{State, reg}
use Rattle.sbx_rules.specs.Operations.{reads_codes, reads_y}
use Rattle.sbx_rules.specs.Entry.{Entry}
use Rattle.sbx_rules.specs.Fits.{Fits}
use Rattle.sbx_rules.specs.Known.{Known, with_entry, with_y}
use Rattle.sbx_rules.specs.Relation.{Relation}
use Rattle.sbx_rules.specs.Rules.{is_defined, is_some}
use Rattle.sbx_image.specs.Order.{function_at}
use Rattle.sbx_sound.proofs.Running.{tests, window_of}
use Rattle.sbx_sound.proofs.Shared.{KnownParts, Shows, Window, with_location}
use Rattle.sbx_rules.specs.Results.{register_entry, operand_entry, result_of}
use Rattle.sbx_rules.specs.Transfer.{relation_of, sets_codes, transferred, with_codes}
use Rattle.sbx_sound.proofs.Effects.{IsFewer, Reaches, codes_show, moved_on, reaches_by, read_shown, with_codes_known, with_word_known, writes_reach}
use Rattle.sbx_sound.proofs.Frames.{IsFree}
use Rattle.sbx_sound.proofs.Safe.{ShowsSpot, Spot}
use Rattle.sbx_sound.proofs.Steps.{Does, linked_at, op_of}
use Rattle.v8_alu.specs.declared.Op.TheVariants as ops

-- ---- results look at the codes and at Y only where the rules say so

same_value : (op : Op) (t : Three) (a b : ℕ) (f g : Icc) (y z : ℕ) → (reads_codes (Compute op t) ≡ true → f ≡ g) → (reads_y (Compute op t) ≡ true → y ≡ z) →
    (outcome op a b f y).value ≡ (outcome op a b g z).value
unfolding outcome
same_value ops.Addx t a b f g y z p q = ap (λ (i : Icc). (outcome ops.Addx a b i y).value) (p refl)
same_value ops.AddxCc t a b f g y z p q = ap (λ (i : Icc). (outcome ops.AddxCc a b i y).value) (p refl)
same_value ops.Subx t a b f g y z p q = ap (λ (i : Icc). (outcome ops.Subx a b i y).value) (p refl)
same_value ops.SubxCc t a b f g y z p q = ap (λ (i : Icc). (outcome ops.SubxCc a b i y).value) (p refl)
same_value ops.MulsCc t a b f g y z p q = ap (λ (i : Icc). (outcome ops.MulsCc a b i y).value) (p refl) ∙ ap (λ x. (outcome ops.MulsCc a b g x).value) (q refl)
same_value _ t a b f g y z p q = refl

same_codes : (op : Op) (t : Three) (a b : ℕ) (f g : Icc) (y z : ℕ) → (reads_codes (Compute op t) ≡ true → f ≡ g) → (reads_y (Compute op t) ≡ true → y ≡ z) →
    (sets_codes op ≡ false → f ≡ g) → (outcome op a b f y).icc ≡ (outcome op a b g z).icc
unfolding outcome
same_codes ops.AddxCc t a b f g y z p q r = ap (λ (i : Icc). (outcome ops.AddxCc a b i y).icc) (p refl)
same_codes ops.SubxCc t a b f g y z p q r = ap (λ (i : Icc). (outcome ops.SubxCc a b i y).icc) (p refl)
same_codes ops.MulsCc t a b f g y z p q r = ap (λ (i : Icc). (outcome ops.MulsCc a b i y).icc) (p refl) ∙ ap (λ x. (outcome ops.MulsCc a b g x).icc) (q refl)
same_codes ops.AddCc t a b f g y z p q r = refl
same_codes ops.SubCc t a b f g y z p q r = refl
same_codes ops.AndCc t a b f g y z p q r = refl
same_codes ops.AndnCc t a b f g y z p q r = refl
same_codes ops.OrCc t a b f g y z p q r = refl
same_codes ops.OrnCc t a b f g y z p q r = refl
same_codes ops.XorCc t a b f g y z p q r = refl
same_codes ops.XnorCc t a b f g y z p q r = refl
same_codes ops.UmulCc t a b f g y z p q r = refl
same_codes ops.SmulCc t a b f g y z p q r = refl
same_codes ops.TaddCc t a b f g y z p q r = refl
same_codes ops.TsubCc t a b f g y z p q r = refl
same_codes _ t a b f g y z p q r = r refl

same_y : (op : Op) (t : Three) (a b : ℕ) (f g : Icc) (y z : ℕ) → (reads_y (Compute op t) ≡ true → y ≡ z) → (writes_y op ≡ false → y ≡ z) → (outcome op a b f y).y ≡ (outcome op a b g z).y
unfolding outcome
same_y ops.MulsCc t a b f g y z q r = ap (λ x. (outcome ops.MulsCc a b g x).y) (q refl)
same_y ops.Umul t a b f g y z q r = refl
same_y ops.UmulCc t a b f g y z q r = refl
same_y ops.Smul t a b f g y z q r = refl
same_y ops.SmulCc t a b f g y z q r = refl
same_y _ t a b f g y z q r = r refl

-- ---- what is known after a result

abbrev coded : Bool → Bool → Option Relation → Known → Known
coded t u r d = if t then with_y (Some (all 0)) (with_codes u r d) else with_codes u r d

known_entry : (t u : Bool) (r : Option Relation) (d : Known) (l : ℕ) → (coded t u r d).entry l ≡ d.entry l
known_entry true true r d l = refl
known_entry true false r d l = refl
known_entry false true r d l = refl
known_entry false false r d l = refl

known_codes : (t u : Bool) (r : Option Relation) (d : Known) → (coded t u r d).icc ≡ true → u ≡ false → d.icc ≡ true
known_codes true true r d h e = absurd (cc)
known_codes false true r d h e = absurd (cc)
known_codes true false r d h e = h
known_codes false false r d h e = h

known_y : (t u : Bool) (r : Option Relation) (d : Known) → is_some (coded t u r d).y ≡ true → t ≡ false → is_some d.y ≡ true
known_y true u r d h e = absurd (cc)
known_y false true r d h e = h
known_y false false r d h e = h

module _ (parts : Parts) (w : ℕ) (p : Spot parts w) where
  abbrev window : Window
  window = window_of (function_at parts p.f) p.b p.i

  abbrev frame : ℕ
  frame = (function_at parts p.f).frame

  abbrev linked : Bool
  linked = linked_at parts w p

  abbrev d : Known
  d = p.v.known

  -- What the rules say of the registers that a result reads.
  pub record ReadsWell (op : Op) (t : Three) : Type 0 where
    pub fields : AreFields t
    pub first_low : t.rs1 < 32
    pub first : t.rs1 ≢ 0 → is_defined d t.rs1 ≡ true
    pub second_is : (s : State) → ShowsSpot parts w p s → second (reg s) t.operand2 ≡ second p.k.words t.operand2
    pub codes : reads_codes (Compute op t) ≡ true → d.icc ≡ true
    pub y : reads_y (Compute op t) ≡ true → is_some d.y ≡ true

  known_test : (l : ℕ) → l ≢ 0 → is_defined d l ≡ true → (tests parts d linked).location l ≡ true
  known_test l some h = is_test l (is_defined d l) linked some h
    where
      is_test : (l : ℕ) (a linked : Bool) → l ≢ 0 → a ≡ true → (not (l == 0) && (a || ((l == 15) && linked))) ≡ true
      is_test l a linked some h = grind (arith, nat_tests)

  pub computes : (op : Op) (t : Three) → op_of parts w p ≡ Compute op t → IsFree window t.rd → 15 ≢ t.rd → ReadsWell op t
      → Does parts w p
  unfolding transferred
  computes op t is free no_link reads =
      let a = p.k.words t.rs1 in
      let b = second p.k.words t.operand2 in
      let out = outcome op a b p.k.icc p.k.y in
      let e = result_of op (register_entry d t.rs1) (operand_entry d t.operand2) in
      let after = transferred frame (Compute op t) d in
      let shared_codes = with_codes_known out.icc out.y p.k in
      let held : Held = record { words = p.k.words; icc = p.k.icc; y = p.k.y } in
      let low = reads.fields.rd in
      let fits = fits_shown p.start after t.rd out.value p.k.words out.icc out.y (omega (arith, low)) ((results_keep_fitting frame op t d held reads.fields).fits p.start p.at.fits) in
      record {
        left = record { words = with_location t.rd out.value p.k.words; icc = out.icc; y = out.y; memory = p.k.memory; input = p.k.input; output = p.k.output };
        fits = subst (λ o. Fits p.start (transferred frame o d) (with_location t.rd out.value p.k.words) out.icc out.y) (sym is) fits;
        link = other_word t.rd out.value p.k.words no_link;
        stored = p.at.stored;
        reached = None;
        reaches = λ s h. ap (λ o. reached_by o s) is;
        goes = λ fresh s h.
            (let same_a : reg s t.rs1 ≡ a = read_shown window (tests parts d linked) p.k s t.rs1 reads.first_low p.at.fits.near.zero (λ some. known_test t.rs1 some (reads.first some)) h in
            let same_b : operand_value s t.operand2 ≡ b = reads.second_is s h in
            let codes : reads_codes (Compute op t) ≡ true → s.icc ≡ p.k.icc = λ r. h.codes (reads.codes r) in
            let y : reads_y (Compute op t) ≡ true → s.y ≡ p.k.y = λ r. h.y (reads.y r) in
            let s_out = outcome op a b s.icc s.y in
            let mid : KnownParts = record { location = (tests parts d linked).location; codes = after.icc; y = is_some after.y } in
            let shown = codes_show window (tests parts d linked) mid p.k s s_out.icc out.icc s_out.y out.y
            (λ r. same_codes op t a b s.icc p.k.icc s.y p.k.y codes y
            (λ u. h.codes (sym (entry_codes t.rd e d) ∙ known_codes (writes_y op) (sets_codes op) (relation_of op t) (with_entry t.rd e d) r u)))
            (λ r. same_y op t a b s.icc p.k.icc s.y p.k.y y
            (λ u. h.y (ap (λ (x : Option Range). is_some x) (sym (entry_y t.rd e d))
            ∙ known_y (writes_y op) (sets_codes op) (relation_of op t) (with_entry t.rd e d) r u)))
            (λ l. refl) h in
            let fewer : IsFewer mid (tests parts after linked) t.rd = record {
              none = refl;
              location = λ l r apart. more_tests l (is_defined after l) (is_defined d l) linked
                  (ap (λ (x : Option Entry). is_some x) (known_entry (writes_y op) (sets_codes op) (relation_of op t) (with_entry t.rd e d) l)
                  ∙ other_defined l t.rd e d apart) r;
              codes = λ r. r;
              y = λ r. r;
            } in
            let made = writes_reach window mid (tests parts after linked) t.rd out.value shared_codes (record s { icc = s_out.icc; y = s_out.y }) free fewer shown in
            let same_out : outcome op (reg s t.rs1) (operand_value s t.operand2) s.icc s.y ≡ s_out =
            ap (λ x. outcome op x (operand_value s t.operand2) s.icc s.y) same_a ∙ ap (λ x. outcome op a x s.icc s.y) same_b in
            let turn : does parts fresh (op_of parts w p) s ≡ writes t.rd out.value (record s { icc = s_out.icc; y = s_out.y }) =
            ap (λ o. does parts fresh o s) is ∙ ap (λ (x : AluOut). writes_result t.rd x s) same_out
            ∙ ap (λ v. writes t.rd v (record s { icc = s_out.icc; y = s_out.y })) (same_value op t a b s.icc p.k.icc s.y p.k.y codes y) in
            subst (λ o. Reaches (does parts fresh (op_of parts w p) s)
            (Shows window (tests parts (transferred frame o d) linked) (moved_on (with_word_known t.rd out.value shared_codes)))) (sym is)
            (reaches_by _ _ _ turn made));
      }
