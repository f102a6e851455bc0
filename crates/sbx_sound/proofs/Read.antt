-- What the rules of registers give: each register that a word reads is known, and each that it writes may be written.
use Rattle.std.proofs.Common.{◌≡◌, ◌≢◌, ℕ, zero, suc, ◌<◌, Bool, true, false, List, [], ◌∷◌, Some, refl, sym, ap, subst, arith}
use Rattle.std.specs.Prelude.{◌==◌, ◌&&◌, ◌||◌, not, nat_lt, slice_get}
use Rattle.std.specs.List.{list_any}
use Rattle.std.proofs.lemmas.Bool.Decides.{nat_tests}
use Rattle.v8_formats.specs.declared.instr.Operand.{Operand}
use Rattle.v8_formats.specs.declared.instr.Operand.TheVariants.{Register, Immediate}
use Rattle.v8_formats.specs.declared.instr.Three.{Three}
use Rattle.v8_alu.specs.declared.Op.{Op}
use Rattle.v8_meaning.specs.declared.operation.Operation.{Operation}
use Rattle.v8_meaning.specs.declared.operation.Operation.TheVariants.{Compute}
use Rattle.v8_meaning.specs.Operands.{second}
use Rattle.sbx_image.specs.Function.{Function}
use Rattle.sbx_image.specs.Parts.{Parts}
use Rattle.sbx_flat.specs.States.{State, reg}
use Rattle.sbx_rules.specs.Known.{Known}
use Rattle.sbx_fits.specs.Held.{IsOperand}
use Rattle.sbx_rules.specs.Operations.{frame_word_read, is_framed, is_reserved, may_write, reads_codes, reads_of, reads_y, second_reads, writes_of}
use Rattle.sbx_image.specs.Order.{function_at}
use Rattle.sbx_rules.specs.Rules.{is_defined, is_some, is_undefined_word, reads_undefined, touches_reserved}
use Rattle.sbx_sound.proofs.LowFields.{LowOperand, LowThree}
use Rattle.sbx_sound.proofs.Running.{tests, window_of}
use Rattle.sbx_sound.proofs.Shared.{Lent, Window}
use Rattle.sbx_sound.proofs.Effects.{read_shown}
use Rattle.sbx_sound.proofs.Frames.{IsFree}
use Rattle.sbx_sound.proofs.Plain.{computes}
use Rattle.sbx_sound.proofs.Safe.{ShowsSpot, Spot}
use Rattle.sbx_sound.proofs.Steps.{Does, linked_at, op_of}
use Rattle.sbx_sound.proofs.Tests.{asked_of, or_left, or_right, undone}

four : (p q r s : Bool) → (p || q || r || s) ≡ false → (p ≡ false) × (q ≡ false) × (r ≡ false) × (s ≡ false)
four false false false false h = (refl, refl, refl, refl)
four true q r s h = absurd (cc)
four false true r s h = absurd (cc)
four false false true s h = absurd (cc)
four false false false true h = absurd (cc)

known_of : (a b c : Bool) → (not a && not b && not c) ≡ false → a ≡ false → b ≡ false → c ≡ true
known_of false false true h p q = refl
known_of false false false h p q = absurd (cc)
known_of true b c h p q = absurd (cc)
known_of false true c h p q = absurd (cc)

same_number : (x v : ℕ) → Some x ≡ Some v → x ≡ v
same_number x v e = cc

none_of : (test : ℕ → Bool) (rs : List ℕ) (n r : ℕ) → slice_get rs n ≡ Some r → list_any test rs ≡ false → test r ≡ false
none_of test [] n r is h = absurd (cc)
none_of test (x ∷ rs) zero r is h = subst (λ y. test y ≡ false) (same_number x r is) (or_left (test x) (list_any test rs) h)
none_of test (x ∷ rs) (suc n) r is h = none_of test rs n r is (or_right (test x) (list_any test rs) h)

some_number : (r : ℕ) → r ≢ 0 → (r == 0) ≡ false
some_number r h = grind (arith, nat_tests)

module _ (function : Function) (o : Operation) (d : Known) (known : reads_undefined function o d ≡ false) (kept : touches_reserved function o ≡ false) where
  parts_known : (list_any (λ r. not (r == 0) && not (is_reserved r) && not (is_defined d r)) (reads_of function o) ≡ false) × (is_undefined_word d (frame_word_read function o) ≡ false)
      × ((reads_codes o && not d.icc) ≡ false) × ((reads_y o && not (is_some d.y)) ≡ false)
  unfolding reads_undefined
  parts_known =
      four (list_any (λ r. not (r == 0) && not (is_reserved r) && not (is_defined d r)) (reads_of function o))
      (is_undefined_word d (frame_word_read function o)) (reads_codes o && not d.icc) (reads_y o && not (is_some d.y)) known

  parts_kept : (list_any is_reserved (reads_of function o) ≡ false) × (list_any (λ r. not (may_write function o r)) (writes_of o) ≡ false)
  unfolding touches_reserved
  parts_kept =
      let reads = list_any is_reserved (reads_of function o) in
      let writes = list_any (λ r. not (may_write function o r)) (writes_of o) in
      (or_left reads writes kept, or_right reads writes kept)

  pub codes_known : reads_codes o ≡ true → d.icc ≡ true
  codes_known h = asked_of (reads_codes o) d.icc parts_known.2 h

  pub y_known : reads_y o ≡ true → is_some d.y ≡ true
  y_known h = asked_of (reads_y o) (is_some d.y) parts_known.3 h

  pub word_known : is_undefined_word d (frame_word_read function o) ≡ false
  word_known = parts_known.1

  pub read_known : (n r : ℕ) → slice_get (reads_of function o) n ≡ Some r → r ≢ 0 → is_defined d r ≡ true
  read_known n r is some =
      known_of (r == 0) (is_reserved r) (is_defined d r)
      (none_of (λ x. not (x == 0) && not (is_reserved x) && not (is_defined d x)) (reads_of function o) n r is parts_known.0) (some_number r some)
      (none_of is_reserved (reads_of function o) n r is parts_kept.0)

  -- nor is it one of the reserved ones
  pub read_free : (n r : ℕ) → slice_get (reads_of function o) n ≡ Some r → is_reserved r ≡ false
  read_free n r is = none_of is_reserved (reads_of function o) n r is parts_kept.0

  pub write_allowed : (n r : ℕ) → slice_get (writes_of o) n ≡ Some r → may_write function o r ≡ true
  write_allowed n r is = undone (may_write function o r) (none_of (λ x. not (may_write function o x)) (writes_of o) n r is parts_kept.1)

-- a register that a plain word may write
pub free_register : (window : Window) (framed : Bool) (r : ℕ) → r < 32 → (not (is_reserved r) && (framed || nat_lt r 16)) ≡ true → (window ≡ Lent → framed ≡ false) → IsFree window r × (15 ≢ r)
free_register window framed r low h lent = (
  record {
    register = low;
    sp = λ e. (let x : r ≡ 14 = sym e in grind (arith, nat_tests));
    fp = λ e. (let x : r ≡ 30 = sym e in grind (arith, nat_tests));
    i7 = λ e. (let x : r ≡ 31 = sym e in grind (arith, nat_tests));
    lent = λ e. (let x = lent e in (grind (arith, nat_tests), λ q. (let y : r ≡ 15 = sym q in grind (arith, nat_tests))));
  },
  λ q. (let y : r ≡ 15 = sym q in grind (arith, nat_tests)),
)

module _ (parts : Parts) (w : ℕ) (p : Spot parts w) where
  function : Function
  function = function_at parts p.f

  is_test : (l : ℕ) (a linked : Bool) → l ≢ 0 → a ≡ true → (not (l == 0) && (a || ((l == 15) && linked))) ≡ true
  is_test l a linked some h = grind (arith, nat_tests)

  -- a second operand reads the same in every state
  pub second_shown : (operand2 : Operand) → LowOperand operand2 → ((r : ℕ) → operand2 ≡ Register r → r ≢ 0 → is_defined p.v.known r ≡ true) → (s : State) →
      ShowsSpot parts w p s → second (reg s) operand2 ≡ second p.k.words operand2
  second_shown (Register r) low known s h =
      read_shown (window_of (function_at parts p.f) p.b p.i) (tests parts p.v.known (linked_at parts w p)) p.k s r low p.at.fits.near.zero
      (λ some. is_test r (is_defined p.v.known r) (linked_at parts w p) some (known r refl some)) h
  second_shown (Immediate n) low known s h = refl

  second_read : (rs1 : ℕ) (operand2 : Operand) (r : ℕ) → operand2 ≡ Register r → slice_get (rs1 ∷ second_reads operand2) 1 ≡ Some r
  second_read rs1 operand2 r e = ap (λ x. slice_get (rs1 ∷ second_reads x) 1) e

  operand_of : (operand2 : Operand) → LowOperand operand2 → IsOperand operand2
  operand_of (Register r) h = tt
  operand_of (Immediate n) h = h

  -- the results that every pair of operands has, by the rules
  pub computes_checked : (op : Op) (t : Three) → op_of parts w p ≡ Compute op t → LowThree t.rd t.rs1 t.operand2
      → reads_undefined (function_at parts p.f) (Compute op t) p.v.known ≡ false → touches_reserved (function_at parts p.f) (Compute op t) ≡ false
      → (window_of (function_at parts p.f) p.b p.i ≡ Lent → is_framed (function_at parts p.f).kind ≡ false) → Does parts w p
  unfolding reads_of writes_of
  computes_checked op t is low known kept lent =
      let f = function_at parts p.f in
      let o = Compute op t in
      let reads : (n r : ℕ) → slice_get (t.rs1 ∷ second_reads t.operand2) n ≡ Some r → r ≢ 0 → is_defined p.v.known r ≡ true = read_known f o p.v.known known kept in
      let writes : (not (is_reserved t.rd) && (is_framed f.kind || nat_lt t.rd 16)) ≡ true = write_allowed f o p.v.known known kept 0 t.rd refl in
      let free = free_register (window_of f p.b p.i) (is_framed f.kind) t.rd low.rd_low writes lent in
      computes parts w p op t is free.0 free.1 (record {
        fields = record { rd = low.rd_low; operand2 = operand_of t.operand2 low.operand_low };
        first_low = low.rs1_low;
        first = λ some. reads 0 t.rs1 refl some;
        second_is = second_shown t.operand2 low.operand_low (λ r e some. reads 1 r (second_read t.rs1 t.operand2 r e) some);
        codes = codes_known f o p.v.known known kept;
        y = y_known f o p.v.known known kept;
      })
