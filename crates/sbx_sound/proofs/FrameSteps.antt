-- What LD and ST of a frame word do, by the rules.
use Rattle.std.proofs.Common.{◌≡◌, ℕ, ◌+◌, ◌*◌, ◌^◌, ◌<◌, ◌≤◌, ℤ, Bool, true, false, [], ◌∷◌, ◌++◌, Some, None, refl, sym, ap, ◌∙◌, subst, arith}
use Rattle.std.specs.Prelude.{pos, ◌+ℤ◌, ◌==◌, ◌&&◌, slice_get, if◌then◌else◌}
use Rattle.std.proofs.lemmas.Bool.Decides.{nat_tests}
use Rattle.v8_word.specs.declared.Size.TheVariants as sizes
use Rattle.v8_formats.specs.declared.instr.Operand.{Operand}
use Rattle.v8_formats.specs.declared.instr.Operand.TheVariants.{Register, Immediate}
use Rattle.v8_alu.specs.Results.{signed}
use Rattle.v8_meaning.specs.declared.operation.Loading.TheVariants as loadings
use Rattle.v8_meaning.specs.declared.operation.MemoryOperand.{MemoryOperand}
use Rattle.v8_meaning.specs.declared.operation.Operation.TheVariants.{Transfer}
use Rattle.v8_meaning.specs.declared.operation.Transfer.{Transfer as Moving}
use Rattle.v8_meaning.specs.declared.operation.Transfer.TheVariants.{Load, Store}
use Rattle.v8_meaning.specs.Operands.{address, sum_address}
use Rattle.v8_meaning.specs.Transfers.{bytes_in, size_of, writes_memory}
use Rattle.sbx_image.specs.Function.{Function}
use Rattle.sbx_image.specs.Parts.{Parts}
use Rattle.sbx_flat.specs.Effects.{address_in}
use Rattle.sbx_flat.specs.States.{State, reg}
use Rattle.sbx_rules.specs.Known.{Known, with_entry}
use Rattle.sbx_rules.specs.Results.{address_of, operand_entry, register_entry}
use Rattle.sbx_rules.specs.Transfer.{frame_word_of, offset_from_sp, transferred, with_moved, word_at_offset}
use Rattle.sbx_fits.specs.Held.{Held}
use Rattle.sbx_fits.proofs.Memory.{frame_words_keep_fitting}
use Rattle.sbx_rules.specs.Operations.{Access, access_of, address_reads, frame_offset, frame_word_read, is_framed, moved_reads, reads_of, writes_of}
use Rattle.sbx_image.specs.Order.{function_at}
use Rattle.sbx_rules.specs.Rules.{is_aligned_access, is_aligned_at, is_defined, is_placed_access, is_placed_at, is_undefined_word, reads_undefined, touches_reserved}
use Rattle.sbx_sound.proofs.LowFields.{LowOperand, LowThree}
use Rattle.sbx_sound.proofs.Running.{bytes_of, tests, window_of}
use Rattle.sbx_sound.proofs.Shared.{Lent, Own, Shows, base_below, stack_start}
use Rattle.sbx_sound.proofs.Addresses.{IsWordOffset, by_fp, by_sp, lies_in_frame, word_at}
use Rattle.sbx_sound.proofs.Effects.{read_sp}
use Rattle.sbx_sound.proofs.FrameWords.{NamesWord, loads_word, read_fp, stores_word}
use Rattle.sbx_sound.proofs.Moves.{register_shown}
use Rattle.sbx_sound.proofs.OtherSteps.{base_small}
use Rattle.sbx_sound.proofs.Read.{free_register, read_known, word_known, write_allowed}
use Rattle.sbx_sound.proofs.Safe.{ShowsSpot, Spot}
use Rattle.sbx_sound.proofs.Steps.{Does, linked_at, op_of}
use Rattle.sbx_sound.proofs.Writing.{is_fewer, then_knows}
use Rattle.sbx_sound.proofs.Written.{fits_shown}
use Rattle.sbx_sound.proofs.Tests.{undone}

same_some : (x y : ℤ) → Some x ≡ Some y → x ≡ y
same_some x y e = cc

-- which of %sp and %fp an offset counts from
pub data CountsFrom (frame rs1 : ℕ) (operand2 : Operand) (offset : ℤ) : Type 0 where
  FromSp : (w : ℕ) → operand2 ≡ Immediate w → rs1 ≡ 14 → offset ≡ signed w → CountsFrom frame rs1 operand2 offset
  FromFp : (w : ℕ) → operand2 ≡ Immediate w → rs1 ≡ 30 → offset ≡ (signed w +ℤ pos frame) → CountsFrom frame rs1 operand2 offset

counts_from : (frame rs1 : ℕ) (operand2 : Operand) (offset : ℤ) → offset_from_sp frame rs1 operand2 ≡ Some offset → CountsFrom frame rs1 operand2 offset
counts_from frame rs1 (Register r) offset h = absurd (cc)
counts_from frame rs1 (Immediate w) offset h = by_tests (rs1 == 14) (rs1 == 30) refl refl h
  where
    by_tests : (s t : Bool) → (rs1 == 14) ≡ s → (rs1 == 30) ≡ t →
        (if s then Some (signed w) else (if t then Some (signed w +ℤ pos frame) else None)) ≡ Some offset → CountsFrom frame rs1 (Immediate w) offset
    by_tests true t p q e = FromSp w refl (let x : rs1 ≡ 14 = grind (arith, nat_tests) in x) (sym (same_some (signed w) offset e))
    by_tests false true p q e = FromFp w refl (let x : rs1 ≡ 30 = grind (arith, nat_tests) in x) (sym (same_some (signed w +ℤ pos frame) offset e))
    by_tests false false p q e = absurd (cc)

module _ (parts : Parts) (w : ℕ) (p : Spot parts w) (lent : window_of (function_at parts p.f) p.b p.i ≡ Lent → is_framed (function_at parts p.f).kind ≡ false) where
  abbrev function : Function
  function = function_at parts p.f

  abbrev d : Known
  d = p.v.known

  abbrev held : Held
  held = record { words = p.k.words; icc = p.k.icc; y = p.k.y }

  -- What a function with a frame has of it, but at its entry.
  pub record HasFrame : Type 0 where
    pub framed : is_framed function.kind ≡ true
    pub own : window_of function p.b p.i ≡ Own function.frame
    pub bytes : bytes_of function p.b p.i ≡ function.frame
    pub small : function.frame ≤ 4096

  base_of : HasFrame → p.k.base + function.frame ≤ stack_start
  base_of has = let e = p.at.base in let b = has.bytes in let low = base_small parts p.f p.k.calls p.at.calls in omega (arith, e, b, low)

  -- the address of a frame word
  word_address : HasFrame → (m : MemoryOperand) → LowOperand m.operand2 → (offset : ℤ) → (word : IsWordOffset function.frame offset) → CountsFrom function.frame m.rs1 m.operand2 offset
      → (s : State) → ShowsSpot parts w p s → address_in s m ≡ p.k.base + 64 + 4 * word.word
  word_address has m low offset word (FromSp n immediate first counts) s h =
      let top = base_of has in
      let within = word.within in
      let is = word.is in
      let small : n < 2 ^ 32 = subst LowOperand immediate low in
      let sum : sum_address p.k.base n ≡ p.k.base + (64 + 4 * word.word) = by_sp p.k.base n (64 + 4 * word.word) small (sym counts ∙ word.is) (omega (arith, top, within)) in
      ap (λ r. address (reg s) r m.operand2) first ∙ ap (λ o. address (reg s) 14 o) immediate ∙ ap (λ x. sum_address x n) (read_sp s p.k.base h.file.base_is)
      ∙ sum ∙ (let e : p.k.base + (64 + 4 * word.word) ≡ p.k.base + 64 + 4 * word.word = omega arith in e)
  word_address has m low offset word (FromFp n immediate first counts) s h =
      let top = base_of has in
      let within = word.within in
      let small : n < 2 ^ 32 = subst LowOperand immediate low in
      let below : p.k.base + function.frame ≡ base_below p.k.calls = ap (λ x. p.k.base + x) (sym has.bytes) ∙ p.at.base in
      let mine = subst (λ x. Shows x (tests parts d (linked_at parts w p)) p.k s) has.own h in
      let sum : sum_address (p.k.base + function.frame) n ≡ p.k.base + (64 + 4 * word.word) =
      by_fp p.k.base function.frame n (64 + 4 * word.word) small (sym counts ∙ word.is) (omega (arith, top)) (omega (arith, within)) in
      ap (λ r. address (reg s) r m.operand2) first ∙ ap (λ o. address (reg s) 30 o) immediate
      ∙ ap (λ x. sum_address x n) (read_fp function.frame (tests parts d (linked_at parts w p)) p.k s mine ∙ sym below) ∙ sum
      ∙ (let e : p.k.base + (64 + 4 * word.word) ≡ p.k.base + 64 + 4 * word.word = omega arith in e)

  -- What the rules say of an LD or ST by %sp or %fp.
  pub record AccessesFrame (t : Moving) (m : MemoryOperand) : Type 0 where
    pub is : op_of parts w p ≡ Transfer t m
    pub has : HasFrame
    pub low : LowThree m.rd m.rs1 m.operand2
    pub offset : ℤ
    pub by_offset : frame_offset function t m ≡ Some offset
    pub offset_is : offset_from_sp function.frame m.rs1 m.operand2 ≡ Some offset
    pub known : reads_undefined function (Transfer t m) d ≡ false
    pub kept : touches_reserved function (Transfer t m) ≡ false
    pub aligned : is_aligned_access (access_of function (Transfer t m) d) ≡ true
    pub placed : is_placed_access parts function.frame (access_of function (Transfer t m) d) ≡ true

  module _ (t : Moving) (m : MemoryOperand) (access : AccessesFrame t m) where
    word : IsWordOffset function.frame access.offset
    unfolding access_of
    word =
        let reached : Access =
        record {
          size = bytes_in (size_of t);
          writes = writes_memory t;
          offset = frame_offset function t m;
          range =
              address_of (register_entry d m.rs1) (operand_entry d m.operand2);
        } in
        lies_in_frame function.frame access.offset (sym (ap (λ x. is_aligned_at x reached) access.by_offset) ∙ access.aligned)
        (sym (ap (λ x. is_placed_at parts function.frame x reached) access.by_offset) ∙ access.placed)

    location_is : frame_word_of function.frame m ≡ Some (32 + word.word)
    location_is = ap (word_at_offset function.frame) access.offset_is ∙ word_at function.frame word.word access.offset access.has.small word.is word.within

    names : NamesWord parts w p m word.word
    names = record {
      own = access.has.own;
      within = word.within;
      address =
          word_address access.has m access.low.operand_low access.offset word (counts_from function.frame m.rs1 m.operand2 access.offset access.offset_is);
    }

    low_location : 32 + word.word < 1040
    low_location = let within = word.within in let small = access.has.small in omega (arith, within, small)

  pub stores_frame_word : (m : MemoryOperand) → AccessesFrame (Store sizes.Word) m → Does parts w p
  unfolding reads_of transferred
  stores_frame_word m access =
      let t : Moving = Store sizes.Word in
      let o = Transfer t m in
      let j = (word t m access).word in
      let l = 32 + j in
      let v = p.k.words m.rd in
      let is = location_is t m access in
      let same : then_knows parts w p o ≡ with_entry l (register_entry d m.rd) d = ap (λ x. with_moved x t m.rd d) is in
      let list : reads_of function o ≡ m.rd ∷ [] = ap (λ x. moved_reads t m.rd ++ address_reads x m) access.by_offset in
      stores_word parts w p m j v access.is (names t m access)
      (register_shown parts w p lent m.rd access.low.rd_low (read_known function o d access.known access.kept 0 m.rd (ap (λ xs. slice_get xs 0) list)))
      (fits_shown p.start (then_knows parts w p o) l v p.k.words p.k.icc p.k.y (low_location t m access) ((frame_words_keep_fitting.store function.frame l m d held is).fits p.start p.at.fits))
      (is_fewer parts w p o l (register_entry d m.rd) same)

  pub loads_frame_word : (m : MemoryOperand) → AccessesFrame (Load loadings.Word) m → Does parts w p
  unfolding writes_of transferred
  loads_frame_word m access =
      let t : Moving = Load loadings.Word in
      let o = Transfer t m in
      let j = (word t m access).word in
      let l = 32 + j in
      let rd_low = access.low.rd_low in
      let is = location_is t m access in
      let same : then_knows parts w p o ≡ with_entry m.rd (d.entry l) d = ap (λ x. with_moved x t m.rd d) is in
      let read : frame_word_read function o ≡ Some l = ap (λ (x : Bool). if x && true then frame_word_of function.frame m else None) access.has.framed ∙ is in
      let defined : is_defined d l ≡ true = undone (is_defined d l) (subst (λ x. is_undefined_word d x ≡ false) read (word_known function o d access.known access.kept)) in
      let free = free_register (Own function.frame) (is_framed function.kind) m.rd rd_low (write_allowed function o d access.known access.kept 0 m.rd refl) (λ e. absurd (cc)) in
      loads_word parts w p m j access.is (names t m access) defined free.0 free.1
      (fits_shown p.start (then_knows parts w p o) m.rd (p.k.words l) p.k.words p.k.icc p.k.y (omega (arith, rd_low))
      ((frame_words_keep_fitting.load function.frame l m d held is).fits p.start p.at.fits))
      (is_fewer parts w p o m.rd (d.entry l) same)
