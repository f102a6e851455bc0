-- What SETHI, RDY, WRY, divisions and the tagged operations that may trap do, by the rules.
use Rattle.std.proofs.Common.{◌≡◌, ◌≢◌, ℕ, ◌<◌, ◌^◌, Bool, true, false, ◌∷◌, Option, Some, None, refl, sym, ap, ◌∙◌, subst, arith}
use Rattle.std.specs.Prelude.{◌==◌, ◌&&◌, ◌||◌, not, slice_get, if◌then◌else◌, bit_xor, int_lt, pos}
use Rattle.std.proofs.lemmas.Bool.Decides.{nat_tests}
use Rattle.v8_word.specs.declared.Icc.{Icc}
use Rattle.v8_formats.specs.declared.instr.Operand.{Operand}
use Rattle.v8_formats.specs.declared.instr.Operand.TheVariants.{Register, Immediate}
use Rattle.v8_formats.specs.declared.instr.Three.{Three}
use Rattle.v8_formats.specs.declared.instr.Two.{Two}
use Rattle.v8_formats.specs.declared.instr.Upper.{Upper}
use Rattle.v8_alu.specs.Outcomes.{divided, division_of, out, tagged_codes, tagged_of, tagged_outcome}
use Rattle.v8_alu.specs.Results.{difference_codes, sum_codes}
use Rattle.v8_alu.specs.declared.AluOut.{AluOut}
use Rattle.v8_alu.specs.declared.Division.{Division}
use Rattle.v8_alu.specs.declared.Division.TheVariants.{Sdiv, SdivCc, Udiv, UdivCc}
use Rattle.v8_alu.specs.declared.TaggedOp.{TaggedOp}
use Rattle.v8_alu.specs.declared.TaggedOp.TheVariants.{TaggedAdd, TaggedSub}
use Rattle.v8_meaning.specs.declared.operation.Operation.{Operation}
use Rattle.v8_meaning.specs.declared.operation.Operation.TheVariants.{Divide, ReadY, SetHigh, TaggedTrap, WriteY}
use Rattle.v8_meaning.specs.Operands.{second}
use Rattle.sbx_image.specs.Function.{Function}
use Rattle.sbx_image.specs.Parts.{Parts}
use Rattle.sbx_image.specs.Range.{Range}
use Rattle.sbx_range.specs.Laws.{AreIn, is_some as is_there}
use Rattle.sbx_range.proofs.Alignments.{divisions_have_results, tagged_operations_have_results}
use Rattle.sbx_flat.specs.Effects.{does, high_word, operand_value, writes, writes_some}
use Rattle.sbx_flat.specs.Registers.{Fresh, written}
use Rattle.sbx_flat.specs.Runs.{reached_by}
use Rattle.sbx_flat.specs.declared.path.Wrong.TheVariants.{TagOverflow, ZeroDivisor}
use Rattle.sbx_flat.specs.States.{State, reg}
use Rattle.sbx_form.specs.Forms.{Cells}
use Rattle.sbx_rules.specs.Entry.{Entry}
use Rattle.sbx_rules.specs.Relation.{Relation}
use Rattle.sbx_rules.specs.Fits.{Fits, HasAlignment}
use Rattle.sbx_rules.specs.Known.{Known, range_of_entry, with_entry}
use Rattle.sbx_rules.specs.Results.{constant_entry, entry_of_y, operand_entry, quotient_of, register_entry, tagged_of as tagged_entry}
use Rattle.sbx_rules.specs.Transfer.{division_sets_codes, transferred, with_codes}
use Rattle.sbx_fits.specs.Held.{Held, IsOperand, tagged_value}
use Rattle.sbx_fits.proofs.Entries.{Has, operand_has, operand_multiple, operand_word, register_has, register_multiple}
use Rattle.sbx_fits.proofs.Others.{moves_keep_fitting, quotients_keep_fitting, tagged_results_keep_fitting}
use Rattle.sbx_rules.specs.Operations.{is_framed, reads_of, second_reads, writes_of}
use Rattle.sbx_image.specs.Order.{function_at}
use Rattle.sbx_rules.specs.Rules.{holds_zero, is_defined, is_some, may_divide_by_zero, may_overflow, reads_undefined, tagged_ranges_fit, touches_reserved}
use Rattle.sbx_sound.proofs.LowFields.{LowOperand, LowThree}
use Rattle.sbx_sound.proofs.Running.{tests, window_of}
use Rattle.sbx_sound.proofs.Shared.{Lent, Window, with_location}
use Rattle.sbx_sound.proofs.Effects.{read_shown}
use Rattle.sbx_sound.proofs.Frames.{IsFree}
use Rattle.sbx_sound.proofs.Read.{free_register, read_known, second_shown, write_allowed, y_known}
use Rattle.sbx_sound.proofs.Safe.{ShowsSpot, Spot}
use Rattle.sbx_sound.proofs.Steps.{Does, linked_at, op_of}
use Rattle.sbx_sound.proofs.Writing.{entry_defined, keeps_codes, keeps_y, then_knows, writes_one}
use Rattle.sbx_sound.proofs.Written.{entry_codes, entry_y, fits_shown, other_defined}
use Rattle.sbx_sound.proofs.Tests.{undone}

-- ---- divisions: the quotient looks at Y, and its codes at nothing else

divided_value : (op : Division) (a b : ℕ) (f g : Icc) (y : ℕ) → (divided op a b f y).value ≡ (divided op a b g y).value
unfolding divided
divided_value Udiv a b f g y = refl
divided_value UdivCc a b f g y = refl
divided_value Sdiv a b f g y = refl
divided_value SdivCc a b f g y = refl

divided_codes : (op : Division) (a b : ℕ) (f g : Icc) (y : ℕ) → (division_sets_codes op ≡ false → f ≡ g) → (divided op a b f y).icc ≡ (divided op a b g y).icc
unfolding divided
divided_codes Udiv a b f g y h = h refl
divided_codes UdivCc a b f g y h = refl
divided_codes Sdiv a b f g y h = h refl
divided_codes SdivCc a b f g y h = refl

divided_y : (op : Division) (a b : ℕ) (f : Icc) (y : ℕ) → (divided op a b f y).y ≡ y
unfolding divided
divided_y Udiv a b f y = refl
divided_y UdivCc a b f y = refl
divided_y Sdiv a b f y = refl
divided_y SdivCc a b f y = refl

coded_entry : (t : Bool) (r : Option Relation) (d : Known) (l : ℕ) → (with_codes t r d).entry l ≡ d.entry l
coded_entry true r d l = refl
coded_entry false r d l = refl

coded_icc : (t : Bool) (r : Option Relation) (d : Known) → (with_codes t r d).icc ≡ true → t ≡ false → d.icc ≡ true
coded_icc true r d h e = absurd (cc)
coded_icc false r d h e = h

-- a divisor whose range has no 0
no_zero : (a b : Bool) → (not a && not b) ≡ false → (a || b) ≡ true
no_zero true b h = refl
no_zero false true h = refl
no_zero false false h = absurd (cc)

has_quotient : (start : Cells) (op : Division) (e : Option Entry) (x y : ℕ) (icc : Icc) (high : ℕ) → y < 2 ^ 32 → Has start e y → holds_zero e ≡ false →
    division_of op x y icc high ≡ Some (divided op x y icc high)
has_quotient start op None x y icc high small has h = absurd (cc)
has_quotient start op (Some e) x y icc high small has h = divisions_have_results op e.range x y icc high small has.interval (no_zero (int_lt (pos 0) e.range.lo) (int_lt e.range.hi (pos 0)) h)

-- ---- tagged operations: codes and value look at the operands alone

flags : TaggedOp → ℕ → ℕ → Icc
flags TaggedAdd a b = tagged_codes a b (sum_codes a b false)
flags TaggedSub a b = tagged_codes a b (difference_codes a b false)

tagged_by : (op : TaggedOp) (a b : ℕ) (f : Icc) (y : ℕ) → tagged_outcome op a b f y ≡ tagged_of (flags op a b) y (tagged_value op a b)
unfolding tagged_outcome flags
tagged_by TaggedAdd a b f y = refl
tagged_by TaggedSub a b f y = refl

no_overflow : (t : Bool) (x : AluOut) → is_there AluOut (if t then None else Some x) ≡ true → t ≡ false
no_overflow true x h = absurd (cc)
no_overflow false x h = refl

has_tagged : (start : Cells) (op : TaggedOp) (a b : Option Entry) (x y : ℕ) (icc : Icc) (high : ℕ) → x < 2 ^ 32 → y < 2 ^ 32 → Has start a x → Has start b y
    → HasAlignment (range_of_entry a) x → HasAlignment (range_of_entry b) y → tagged_ranges_fit op a b ≡ true → (flags op x y).v ≡ false
has_tagged start op None b x y icc high p q r s t u h = absurd (cc)
has_tagged start op (Some a) None x y icc high p q r s t u h = absurd (cc)
has_tagged start op (Some a) (Some b) x y icc high p q r s t u h =
    let are : AreIn a.range b.range x y = record { first_word = p; second_word = q; first = r.interval; second = s.interval } in
    no_overflow (flags op x y).v (out (tagged_value op x y) (flags op x y) high)
    (sym (ap (is_there AluOut) (tagged_by op x y icc high)) ∙ tagged_operations_have_results op a.range b.range x y icc high are t u h)

-- ---- operands

pub second_read : (rs1 : ℕ) (operand2 : Operand) (r : ℕ) → operand2 ≡ Register r → slice_get (rs1 ∷ second_reads operand2) 1 ≡ Some r
second_read rs1 operand2 r e = ap (λ x. slice_get (rs1 ∷ second_reads x) 1) e

pub operand_of : (operand2 : Operand) → LowOperand operand2 → IsOperand operand2
operand_of (Register r) h = tt
operand_of (Immediate n) h = h

-- ---- by the rules

module _ (parts : Parts) (w : ℕ) (p : Spot parts w) (lent : window_of (function_at parts p.f) p.b p.i ≡ Lent → is_framed (function_at parts p.f).kind ≡ false) where
  abbrev function : Function
  function = function_at parts p.f

  abbrev window : Window
  window = window_of function p.b p.i

  abbrev d : Known
  d = p.v.known

  abbrev held : Held
  held = record { words = p.k.words; icc = p.k.icc; y = p.k.y }

  is_test : (l : ℕ) (a linked : Bool) → l ≢ 0 → a ≡ true → (not (l == 0) && (a || ((l == 15) && linked))) ≡ true
  is_test l a linked some h = grind (arith, nat_tests)

  -- a register that is known, in each state
  pub register_shown : (r : ℕ) → r < 32 → (r ≢ 0 → is_defined d r ≡ true) → (s : State) → ShowsSpot parts w p s → reg s r ≡ p.k.words r
  register_shown r low known s h =
      read_shown window (tests parts d (linked_at parts w p)) p.k s r low p.at.fits.near.zero
      (λ some. is_test r (is_defined d r) (linked_at parts w p) some (known some)) h

  -- an operation whose turn writes this word, and changes no more
  pub moves_one : (o : Operation) (rd v : ℕ) (e : Option Entry) → op_of parts w p ≡ o → IsFree window rd × (15 ≢ rd) → then_knows parts w p o ≡ with_entry rd e d
      → Fits p.start (then_knows parts w p o) (with_location rd v p.k.words) p.k.icc p.k.y
      → (reached : Option ℕ) → ((s : State) → ShowsSpot parts w p s → reached_by o s ≡ reached)
      → ((fresh : Fresh) (s : State) → ShowsSpot parts w p s → does parts fresh o s ≡ writes rd v s) → Does parts w p
  moves_one o rd v e is free same fits reached reaches turn = writes_one parts w p o rd v p.k.icc p.k.y p.k.memory (record {
    is = is;
    free = free.0;
    apart = free.1;
    fits = fits;
    stored = p.at.stored;
    defined = entry_defined parts w p o rd e same;
    reached = reached;
    reaches = reaches;
    icc_in = λ s. s.icc;
    y_in = λ s. s.y;
    memory_in = λ s. s.memory;
    codes = keeps_codes parts w p o rd e same;
    same_y = keeps_y parts w p o rd e same;
    same_bytes = λ s h. h.rest.memory;
    turn = turn;
  })

  pub sets_high : (f : Upper) → op_of parts w p ≡ SetHigh f → f.rd < 32 → reads_undefined function (SetHigh f) d ≡ false → touches_reserved function (SetHigh f) ≡ false → Does parts w p
  unfolding writes_of transferred
  sets_high f is low known kept =
      let free = free_register window (is_framed function.kind) f.rd low (write_allowed function (SetHigh f) d known kept 0 f.rd refl) lent in
      let fits = fits_shown p.start (then_knows parts w p (SetHigh f)) f.rd (high_word f) p.k.words p.k.icc p.k.y (omega (arith, low))
      ((moves_keep_fitting.set_high function.frame f d held).fits p.start p.at.fits) in
      moves_one (SetHigh f) f.rd (high_word f) (Some (constant_entry (high_word f))) is free refl fits None (λ s h. refl) (λ fresh s h. refl)

  pub reads_the_y : (rd : ℕ) → op_of parts w p ≡ ReadY rd → rd < 32 → reads_undefined function (ReadY rd) d ≡ false → touches_reserved function (ReadY rd) ≡ false → Does parts w p
  unfolding writes_of transferred
  reads_the_y rd is low known kept =
      let free = free_register window (is_framed function.kind) rd low (write_allowed function (ReadY rd) d known kept 0 rd refl) lent in
      let fits = fits_shown p.start (then_knows parts w p (ReadY rd)) rd p.k.y p.k.words p.k.icc p.k.y (omega (arith, low))
      ((moves_keep_fitting.read_y function.frame rd d held).fits p.start p.at.fits) in
      moves_one (ReadY rd) rd p.k.y (entry_of_y d.y) is free refl fits None (λ s h. refl) (λ fresh s h. ap (λ y. writes rd y s) (h.y (y_known function (ReadY rd) d known kept refl)))

  -- WRY writes no register
  pub writes_the_y : (f : Two) → op_of parts w p ≡ WriteY f → f.rs1 < 32 → LowOperand f.operand2 → reads_undefined function (WriteY f) d ≡ false →
      touches_reserved function (WriteY f) ≡ false → Does parts w p
  unfolding reads_of transferred written
  writes_the_y f is low low_operand known kept =
      let o = WriteY f in
      let reads : (n r : ℕ) → slice_get (f.rs1 ∷ second_reads f.operand2) n ≡ Some r → r ≢ 0 → is_defined d r ≡ true = read_known function o d known kept in
      let second_is = second_shown parts w p f.operand2 low_operand (λ r e some. reads 1 r (second_read f.rs1 f.operand2 r e) some) in
      let y = bit_xor (p.k.words f.rs1) (second p.k.words f.operand2) in
      writes_one parts w p o 0 0 p.k.icc y p.k.memory (record {
        is = is;
        free = record { register = omega arith; sp = omega arith; fp = omega arith; i7 = omega arith; lent = λ e. (omega arith, omega arith) };
        apart = omega arith;
        fits = (moves_keep_fitting.write_y function.frame f d held (operand_of f.operand2 low_operand)).fits p.start p.at.fits;
        stored = p.at.stored;
        defined = λ l apart. refl;
        reached = None;
        reaches = λ s h. refl;
        icc_in = λ s. s.icc;
        y_in = λ s. bit_xor (reg s f.rs1) (operand_value s f.operand2);
        memory_in = λ s. s.memory;
        codes = λ s h r. h.codes r;
        same_y = λ s h r. ap (λ x. bit_xor x (operand_value s f.operand2)) (register_shown f.rs1 low (λ some. reads 0 f.rs1 refl some) s h) ∙ ap (bit_xor (p.k.words f.rs1)) (second_is s h);
        same_bytes = λ s h. h.rest.memory;
        turn = λ fresh s h. refl;
      })

  -- a divisor isn't 0
  pub divides : (op : Division) (f : Three) → op_of parts w p ≡ Divide op f → LowThree f.rd f.rs1 f.operand2 →
      reads_undefined function (Divide op f) d ≡ false → touches_reserved function (Divide op f) ≡ false
      → may_divide_by_zero (Divide op f) d ≡ false → Does parts w p
  unfolding reads_of writes_of transferred
  divides op f is low known kept some =
      let o = Divide op f in
      let near = p.at.fits.near in
      let reads : (n r : ℕ) → slice_get (f.rs1 ∷ second_reads f.operand2) n ≡ Some r → r ≢ 0 → is_defined d r ≡ true = read_known function o d known kept in
      let second_is = second_shown parts w p f.operand2 low.operand_low (λ r e some. reads 1 r (second_read f.rs1 f.operand2 r e) some) in
      let free = free_register window (is_framed function.kind) f.rd low.rd_low (write_allowed function o d known kept 0 f.rd refl) lent in
      let operand = operand_of f.operand2 low.operand_low in
      let a = p.k.words f.rs1 in
      let b = second p.k.words f.operand2 in
      let result = divided op a b p.k.icc p.k.y in
      let small = low.rd_low in
      let e = quotient_of d.y (register_entry d f.rs1) (operand_entry d f.operand2) in
      let t = division_sets_codes op in
      let same_y : (s : State) → ShowsSpot parts w p s → s.y ≡ p.k.y = λ s h. h.y (y_known function o d known kept refl) in
      let fits = fits_shown p.start (then_knows parts w p o) f.rd result.value p.k.words result.icc result.y (omega (arith, small))
      ((quotients_keep_fitting function.frame op f d held operand).fits p.start p.at.fits) in
      writes_one parts w p o f.rd result.value result.icc p.k.y p.k.memory (record {
        is = is;
        free = free.0;
        apart = free.1;
        fits = subst (Fits p.start (then_knows parts w p o) (with_location f.rd result.value p.k.words) result.icc) (divided_y op a b p.k.icc p.k.y) fits;
        stored = p.at.stored;
        defined = λ l apart. ap (λ (x : Option Entry). is_some x) (coded_entry t None (with_entry f.rd e d) l) ∙ other_defined l f.rd e d apart;
        reached = None;
        reaches = λ s h. refl;
        icc_in = λ s. (divided op a b s.icc p.k.y).icc;
        y_in = λ s. s.y;
        memory_in = λ s. s.memory;
        codes = λ s h r. divided_codes op a b s.icc p.k.icc p.k.y (λ no. h.codes (sym (entry_codes f.rd e d) ∙ coded_icc t None (with_entry f.rd e d) r no));
        same_y = λ s h r. same_y s h;
        same_bytes = λ s h. h.rest.memory;
        turn = λ fresh s h.
            (let y = same_y s h in
            ap (λ x. writes_some f.rd ZeroDivisor (division_of op x (operand_value s f.operand2) s.icc s.y) s) (register_shown f.rs1 low.rs1_low (λ some. reads 0 f.rs1 refl some) s h)
            ∙ ap (λ x. writes_some f.rd ZeroDivisor (division_of op a x s.icc s.y) s) (second_is s h)
            ∙ ap (λ x. writes_some f.rd ZeroDivisor x s)
            (has_quotient p.start op (operand_entry d f.operand2) a b s.icc s.y (operand_word p.k.words f.operand2 near.are_words operand)
            (operand_has p.start d p.k.words p.k.icc p.k.y f.operand2 near) some)
            ∙ ap (λ x. writes f.rd (divided op a b s.icc s.y).value (record s { icc = (divided op a b s.icc s.y).icc; y = x })) (divided_y op a b s.icc s.y)
            ∙ ap (λ x. writes f.rd (divided op a b s.icc x).value (record s { icc = (divided op a b s.icc x).icc })) y
            ∙ ap (λ x. writes f.rd x (record s { icc = (divided op a b s.icc p.k.y).icc })) (divided_value op a b s.icc p.k.icc p.k.y));
      })

  -- a tagged operation doesn't overflow
  pub tags : (op : TaggedOp) (f : Three) → op_of parts w p ≡ TaggedTrap op f → LowThree f.rd f.rs1 f.operand2 →
      reads_undefined function (TaggedTrap op f) d ≡ false → touches_reserved function (TaggedTrap op f) ≡ false
      → may_overflow (TaggedTrap op f) d ≡ false → Does parts w p
  unfolding reads_of writes_of transferred
  tags op f is low known kept fit =
      let o = TaggedTrap op f in
      let near = p.at.fits.near in
      let reads : (n r : ℕ) → slice_get (f.rs1 ∷ second_reads f.operand2) n ≡ Some r → r ≢ 0 → is_defined d r ≡ true = read_known function o d known kept in
      let second_is = second_shown parts w p f.operand2 low.operand_low (λ r e some. reads 1 r (second_read f.rs1 f.operand2 r e) some) in
      let free = free_register window (is_framed function.kind) f.rd low.rd_low (write_allowed function o d known kept 0 f.rd refl) lent in
      let operand = operand_of f.operand2 low.operand_low in
      let a = p.k.words f.rs1 in
      let b = second p.k.words f.operand2 in
      let v = tagged_value op a b in
      let codes = flags op a b in
      let small = low.rd_low in
      let e = tagged_entry op (register_entry d f.rs1) (operand_entry d f.operand2) in
      let none : codes.v ≡ false =
      has_tagged p.start op (register_entry d f.rs1) (operand_entry d f.operand2) a b p.k.icc p.k.y (near.are_words f.rs1)
      (operand_word p.k.words f.operand2 near.are_words operand)
      (register_has p.start d p.k.words p.k.icc p.k.y f.rs1 near) (operand_has p.start d p.k.words p.k.icc p.k.y f.operand2 near)
      (register_multiple p.start d p.k.words p.k.icc p.k.y f.rs1 p.at.fits) (operand_multiple p.start d p.k.words p.k.icc p.k.y f.operand2 p.at.fits)
      (undone (tagged_ranges_fit op (register_entry d f.rs1) (operand_entry d f.operand2)) fit) in
      let gives : (icc : Icc) (y : ℕ) → tagged_outcome op a b icc y ≡ Some (out v codes y) = λ icc y. tagged_by op a b icc y ∙ ap (λ (x : Bool). if x then None else Some (out v codes y)) none in
      writes_one parts w p o f.rd v codes p.k.y p.k.memory (record {
        is = is;
        free = free.0;
        apart = free.1;
        fits = fits_shown p.start (then_knows parts w p o) f.rd v p.k.words codes p.k.y (omega (arith, small))
            ((tagged_results_keep_fitting.fits function.frame op f d held (out v codes p.k.y) operand (gives p.k.icc p.k.y)).fits p.start p.at.fits);
        stored = p.at.stored;
        defined = λ l apart. other_defined l f.rd e d apart;
        reached = None;
        reaches = λ s h. refl;
        icc_in = λ s. codes;
        y_in = λ s. s.y;
        memory_in = λ s. s.memory;
        codes = λ s h r. refl;
        same_y = λ s h r. h.y (sym (ap (λ (x : Option Range). is_some x) (entry_y f.rd e d)) ∙ r);
        same_bytes = λ s h. h.rest.memory;
        turn = λ fresh s h.
            ap (λ x. writes_some f.rd TagOverflow (tagged_outcome op x (operand_value s f.operand2) s.icc s.y) s) (register_shown f.rs1 low.rs1_low (λ some. reads 0 f.rs1 refl some) s h)
            ∙ ap (λ x. writes_some f.rd TagOverflow (tagged_outcome op a x s.icc s.y) s) (second_is s h)
            ∙ ap (λ x. writes_some f.rd TagOverflow x s) (gives s.icc s.y);
      })
