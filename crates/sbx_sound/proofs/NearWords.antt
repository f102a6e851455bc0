-- Words in the intervals before an operation leave words in the intervals after it, whatever comes in from outside, and whether
-- a machine would trap there or not.
use Rattle.std.proofs.Common.{◌≡◌, ℕ, ◌+◌, ◌-◌, ◌*◌, ◌/◌, ◌^◌, ◌<◌, ℤ, Bool, true, false, Option, Some, None, refl, sym, ap, ◌∙◌, subst, arith}
use Rattle.std.specs.Prelude.{pos, negsuc, ◌==◌, if◌then◌else◌, bit_xor}
use Rattle.std.proofs.lemmas.Bool.Decides.{nat_tests}
use Rattle.std.proofs.lemmas.Nat.{pow_pos}
use Rattle.v8_word.specs.declared.Size.{Size}
use Rattle.v8_word.specs.declared.Size.TheVariants as sizes
use Rattle.v8_formats.specs.declared.instr.Operand.{Operand}
use Rattle.v8_formats.specs.declared.instr.Operand.TheVariants.{Register, Immediate}
use Rattle.v8_formats.specs.declared.instr.Three.{Three}
use Rattle.v8_formats.specs.declared.instr.Trap.{Trap}
use Rattle.v8_alu.specs.Outcomes.{divided, outcome}
use Rattle.v8_alu.specs.declared.TaggedOp.{TaggedOp}
use Rattle.v8_meaning.specs.Operands.{address, second}
use Rattle.v8_meaning.specs.Transfers.{bytes_in, exchanged_size, loaded, loaded_size}
use Rattle.v8_meaning.specs.declared.operation.Loading.{Loading}
use Rattle.v8_meaning.specs.declared.operation.Loading.TheVariants as loadings
use Rattle.v8_meaning.specs.declared.operation.MemoryOperand.{MemoryOperand}
use Rattle.v8_meaning.specs.declared.operation.Operation.{Operation}
use Rattle.v8_meaning.specs.declared.operation.Operation.TheVariants.{Call, Compute, Divide, ReadY, Restore, Save, SetHigh, TaggedTrap, Transfer, TrapOnCondition, WriteY}
use Rattle.v8_meaning.specs.declared.operation.Transfer.{Transfer as Moving}
use Rattle.v8_meaning.specs.declared.operation.Transfer.TheVariants.{Exchange, Load, Store}
use Rattle.sbx_flat.specs.Effects.{high_word, service_of}
use Rattle.sbx_form.specs.Forms.{Cells}
use Rattle.sbx_rules.specs.Fits.{Near, Words, with_word}
use Rattle.sbx_rules.specs.Known.{Known}
use Rattle.sbx_rules.specs.Transfer.{frame_word_of, is_global, is_in, is_out, is_word_offset, offset_from_sp, transferred, with_moved, word_at_offset}
use Rattle.sbx_fits.proofs.Branches.{services_keep_fitting}
use Rattle.sbx_fits.proofs.Frames.{calls_keep_fitting, frames_keep_fitting}
use Rattle.sbx_fits.proofs.Memory.{data_keeps_fitting, frame_words_keep_fitting}
use Rattle.sbx_fits.proofs.Others.{moves_keep_fitting, quotients_keep_fitting, tagged_results_keep_fitting}
use Rattle.sbx_fits.proofs.Results.{results_keep_fitting}
use Rattle.sbx_fits.specs.Held.{AreFields, AreRestored, AreSaved, Held, IsOperand, Keeps, tagged_value, with_location, with_pairs, with_result}
use Rattle.sbx_sound.proofs.LowFields.{LowFields, LowOperand, LowThree}

-- some words are in the intervals
pub record HasNear (start : Cells) (d : Known) : Type 0 where
  pub held : Held
  pub near : Near start d held.words held.icc held.y

near_kept : (start : Cells) (d e : Known) (h k : Held) → Keeps d e h k → Near start d h.words h.icc h.y → HasNear start e
near_kept start d e h k keeps near = record { held = k; near = keeps.near start near }

operand_of : (o : Operand) → LowOperand o → IsOperand o
operand_of (Register r) h = tt
operand_of (Immediate n) h = h

fields_of : (f : Three) → LowThree f.rd f.rs1 f.operand2 → AreFields f
fields_of f low = record { rd = low.rd_low; operand2 = operand_of f.operand2 low.operand_low }

-- ---- loads and stores

-- an offset is a frame word's only for LD and ST
load_anywhere : (l : Loading) (word : Option ℕ) (m : MemoryOperand) (d : Known) → (l ≡ loadings.Word → ⊥) → with_moved word (Load l) m.rd d ≡ with_moved None (Load l) m.rd d
load_anywhere loadings.UnsignedByte None m d other = refl
load_anywhere loadings.UnsignedByte (Some k) m d other = refl
load_anywhere loadings.SignedByte None m d other = refl
load_anywhere loadings.SignedByte (Some k) m d other = refl
load_anywhere loadings.UnsignedHalf None m d other = refl
load_anywhere loadings.UnsignedHalf (Some k) m d other = refl
load_anywhere loadings.SignedHalf None m d other = refl
load_anywhere loadings.SignedHalf (Some k) m d other = refl
load_anywhere loadings.Word word m d other = absurd (other refl)
load_anywhere loadings.Double None m d other = refl
load_anywhere loadings.Double (Some k) m d other = refl

no_offset : (n : ℕ) → is_word_offset 0 n ≡ false
no_offset n = grind (arith, nat_tests)

-- an empty frame has no word
no_word : (o : Option ℤ) → word_at_offset 0 o ≡ None
no_word None = refl
no_word (Some (negsuc n)) = refl
no_word (Some (pos n)) = ap (λ (t : Bool). if t then Some (32 + (n - 64) / 4) else None) (no_offset n)

module _ (start : Cells) (frame : ℕ) (d : Known) (n : HasNear start d) where
  after : (e : Known) (k : Held) → Keeps d e n.held k → HasNear start e
  after e k keeps = near_kept start d e n.held k keeps n.near

  -- a load of data brings any number, as 0
  load_data : (size : ℕ) (l : Loading) (m : MemoryOperand) → frame_word_of size m ≡ None → HasNear start (transferred size (Transfer (Load l) m) d)
  load_data size l m none =
      after (transferred size (Transfer (Load l) m) d) (with_pairs (loaded l m.rd 0) n.held)
      (data_keeps_fitting.load size l m d n.held 0 none (pow_pos (8 * bytes_in (loaded_size l))))

  load_plainly : (l : Loading) (m : MemoryOperand) → (l ≡ loadings.Word → ⊥) → HasNear start (transferred frame (Transfer (Load l) m) d)
  unfolding transferred
  load_plainly l m other =
      let zero_is = no_word (offset_from_sp 0 m.rs1 m.operand2) in
      let same : with_moved (frame_word_of 0 m) (Load l) m.rd d ≡ with_moved (frame_word_of frame m) (Load l) m.rd d =
      ap (λ w. with_moved w (Load l) m.rd d) zero_is ∙ sym (load_anywhere l (frame_word_of frame m) m d other) in
      subst (HasNear start) same (load_data 0 l m zero_is)

  load_word : (m : MemoryOperand) → HasNear start (transferred frame (Transfer (Load loadings.Word) m) d)
  load_word m = by_word (frame_word_of frame m) refl
    where
      by_word : (word : Option ℕ) → frame_word_of frame m ≡ word → HasNear start (transferred frame (Transfer (Load loadings.Word) m) d)
      by_word None e = load_data frame loadings.Word m e
      by_word (Some l) e = after (transferred frame (Transfer (Load loadings.Word) m) d) (with_location m.rd (n.held.words l) n.held) (frame_words_keep_fitting.load frame l m d n.held e)

  near_load : (l : Loading) (m : MemoryOperand) → HasNear start (transferred frame (Transfer (Load l) m) d)
  near_load loadings.Word m = load_word m
  near_load loadings.UnsignedByte m = load_plainly loadings.UnsignedByte m (λ e. cc)
  near_load loadings.SignedByte m = load_plainly loadings.SignedByte m (λ e. cc)
  near_load loadings.UnsignedHalf m = load_plainly loadings.UnsignedHalf m (λ e. cc)
  near_load loadings.SignedHalf m = load_plainly loadings.SignedHalf m (λ e. cc)
  near_load loadings.Double m = load_plainly loadings.Double m (λ e. cc)

  store_plainly : (size : Size) (word : Option ℕ) (m : MemoryOperand) → (size ≡ sizes.Word → ⊥) → with_moved word (Store size) m.rd d ≡ d
  store_plainly sizes.Byte None m other = refl
  store_plainly sizes.Byte (Some k) m other = refl
  store_plainly sizes.Half None m other = refl
  store_plainly sizes.Half (Some k) m other = refl
  store_plainly sizes.Word word m other = absurd (other refl)
  store_plainly sizes.Double None m other = refl
  store_plainly sizes.Double (Some k) m other = refl

  near_stored : (size : Size) (m : MemoryOperand) → (size ≡ sizes.Word → ⊥) → HasNear start (transferred frame (Transfer (Store size) m) d)
  unfolding transferred
  near_stored size m other = subst (HasNear start) (sym (store_plainly size (frame_word_of frame m) m other)) n

  store_word : (m : MemoryOperand) → HasNear start (transferred frame (Transfer (Store sizes.Word) m) d)
  store_word m = by_word (frame_word_of frame m) refl
    where
      by_word : (word : Option ℕ) → frame_word_of frame m ≡ word → HasNear start (transferred frame (Transfer (Store sizes.Word) m) d)
      by_word None e = after (transferred frame (Transfer (Store sizes.Word) m) d) n.held (data_keeps_fitting.store frame sizes.Word m d n.held e)
      by_word (Some l) e = after (transferred frame (Transfer (Store sizes.Word) m) d) (with_location l (n.held.words m.rd) n.held) (frame_words_keep_fitting.store frame l m d n.held e)

  near_store : (size : Size) (m : MemoryOperand) → HasNear start (transferred frame (Transfer (Store size) m) d)
  near_store sizes.Word m = store_word m
  near_store sizes.Byte m = near_stored sizes.Byte m (λ e. cc)
  near_store sizes.Half m = near_stored sizes.Half m (λ e. cc)
  near_store sizes.Double m = near_stored sizes.Double m (λ e. cc)

  near_moved : (t : Moving) (m : MemoryOperand) → HasNear start (transferred frame (Transfer t m) d)
  near_moved (Load l) m = near_load l m
  near_moved (Store size) m = near_store size m
  near_moved (Exchange e) m =
      after (transferred frame (Transfer (Exchange e) m) d) (with_location m.rd 0 n.held)
      (data_keeps_fitting.exchange frame e m d n.held 0 (pow_pos (8 * bytes_in (exchanged_size e))))

  -- ---- windows

  word_or_zero : (t : Bool) (w : ℕ) → w < 2 ^ 32 → (if t then w else 0) < 2 ^ 32
  word_or_zero true w h = h
  word_or_zero false w h = omega arith

  word_or : (t : Bool) (w v : ℕ) → w < 2 ^ 32 → v < 2 ^ 32 → (if t then w else v) < 2 ^ 32
  word_or true w v p q = p
  word_or false w v p q = q

  pick : (t : Bool) (w v : ℕ) → t ≡ true → (if t then w else v) ≡ w
  pick true w v h = refl
  pick false w v h = absurd (cc)

  -- ins are the outs from before, all else is 0
  save_words : Held
  save_words = record { words = λ l. if is_in l then n.held.words (l - 16) else 0; icc = n.held.icc; y = 0 }

  saved_words : AreSaved n.held save_words
  unfolding save_words
  saved_words = record {
    are_words = λ l. word_or_zero (is_in l) (n.held.words (l - 16)) (n.near.are_words (l - 16));
    zero = refl;
    ins = λ l h. pick (is_in l) (n.held.words (l - 16)) 0 h;
    y_word = omega arith;
  }

  near_save : (f : Three) → HasNear start (transferred frame (Save f) d)
  near_save f = after (transferred frame (Save f) d) save_words (frames_keep_fitting.save frame f d n.held save_words saved_words)

  restore_words : Words
  restore_words l = if is_global l then n.held.words l else (if is_out l then n.held.words (l + 16) else 0)

  outs_not_global : (l : ℕ) → is_out l ≡ true → is_global l ≡ false
  outs_not_global l h = grind (arith, nat_tests)

  skip : (t : Bool) (w v : ℕ) → t ≡ false → (if t then w else v) ≡ v
  skip true w v h = absurd (cc)
  skip false w v h = refl

  restored_words : AreRestored n.held.words restore_words
  unfolding restore_words
  restored_words = record {
    are_words = λ l. word_or (is_global l) (n.held.words l) (if is_out l then n.held.words (l + 16) else 0) (n.near.are_words l)
        (word_or_zero (is_out l) (n.held.words (l + 16)) (n.near.are_words (l + 16)));
    zero = n.near.zero;
    globals = λ l h. pick (is_global l) (n.held.words l) (if is_out l then n.held.words (l + 16) else 0) h;
    outs = λ l h. skip (is_global l) (n.held.words l) (if is_out l then n.held.words (l + 16) else 0) (outs_not_global l h) ∙ pick (is_out l) (n.held.words (l + 16)) 0 h;
  }

  near_restore : (f : Three) → IsOperand f.operand2 → HasNear start (transferred frame (Restore f) d)
  near_restore f is =
      after (transferred frame (Restore f) d) (record n.held { words = with_word f.rd (address n.held.words f.rs1 f.operand2) restore_words })
      (frames_keep_fitting.restore frame f d n.held restore_words is restored_words)

  -- ---- services

  -- get brings its end
  near_served : (t : Trap) → HasNear start (transferred frame (TrapOnCondition t) d)
  near_served t = by_test (is_get (service_of t)) refl
    where
      is_get : Option ℕ → Bool
      is_get None = false
      is_get (Some k) = k == 1

      gets : (o : Option ℕ) → is_get o ≡ true → o ≡ Some 1
      gets None h = absurd (cc)
      gets (Some k) h = ap Some (let e : k ≡ 1 = grind (arith, nat_tests) in e)

      gets_not : (o : Option ℕ) → is_get o ≡ false → o ≡ Some 1 → ⊥
      gets_not o h e = let x : is_get o ≡ true = ap is_get e in cc

      by_test : (b : Bool) → is_get (service_of t) ≡ b → HasNear start (transferred frame (TrapOnCondition t) d)
      by_test true h = after (transferred frame (TrapOnCondition t) d) (with_location 8 (2 ^ 32 - 1) n.held) (services_keep_fitting.get_end frame t d n.held (gets (service_of t) h))
      by_test false h = subst (HasNear start) (sym (services_keep_fitting.others frame t d (gets_not (service_of t) h))) n

  -- ---- all

  near_tagged : (op : TaggedOp) (f : Three) → IsOperand f.operand2 → HasNear start (transferred frame (TaggedTrap op f) d)
  near_tagged op f is = record {
    held = record n.held { words = with_word f.rd (tagged_value op (n.held.words f.rs1) (second n.held.words f.operand2)) n.held.words };
    near = tagged_results_keep_fitting.near frame op f start d n.held n.held.icc is n.near;
  }

  pub near_after : (op : Operation) → LowFields op → HasNear start (transferred frame op d)
  unfolding transferred
  near_after (Compute op f) low =
      after (transferred frame (Compute op f) d)
      (with_result f.rd (outcome op (n.held.words f.rs1) (second n.held.words f.operand2) n.held.icc n.held.y) n.held)
      (results_keep_fitting frame op f d n.held (fields_of f low))
  near_after (Divide op f) low =
      after (transferred frame (Divide op f) d) (with_result f.rd (divided op (n.held.words f.rs1) (second n.held.words f.operand2) n.held.icc n.held.y) n.held)
      (quotients_keep_fitting frame op f d n.held (operand_of f.operand2 low.operand_low))
  near_after (TaggedTrap op f) low = near_tagged op f (operand_of f.operand2 low.operand_low)
  near_after (SetHigh f) low = after (transferred frame (SetHigh f) d) (with_location f.rd (high_word f) n.held) (moves_keep_fitting.set_high frame f d n.held)
  near_after (ReadY rd) low = after (transferred frame (ReadY rd) d) (with_location rd n.held.y n.held) (moves_keep_fitting.read_y frame rd d n.held)
  near_after (WriteY f) low =
      after (transferred frame (WriteY f) d) (record n.held { y = bit_xor (n.held.words f.rs1) (second n.held.words f.operand2) })
      (moves_keep_fitting.write_y frame f d n.held (operand_of f.operand2 low.operand_low))
  near_after (Transfer t m) low = near_moved t m
  near_after (Save f) low = near_save f
  near_after (Restore f) low = near_restore f (operand_of f.operand2 low.operand_low)
  near_after (Call displacement) low = after (transferred frame (Call displacement) d) (with_location 15 0 n.held) (calls_keep_fitting.link frame displacement 0 d n.held (omega arith))
  near_after (TrapOnCondition t) low = near_served t
  near_after _ low = n
