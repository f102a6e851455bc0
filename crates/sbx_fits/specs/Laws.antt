-- The laws of what is known, operation by operation: what fits before a word fits after it.
use Rattle.std.specs.Prelude.{ℕ, ◌*◌, ◌-◌, ◌<◌, ◌^◌, ◌≡◌, true, List, Some, None, bit_xor}
use Rattle.v8_word.specs.Conditions.{holds}
use Rattle.v8_word.specs.declared.Cond.{Cond}
use Rattle.v8_word.specs.declared.Icc.{Icc}
use Rattle.v8_word.specs.declared.Size.{Size}
use Rattle.v8_word.specs.declared.Size.TheVariants as sizes
use Rattle.v8_formats.specs.declared.instr.Branch.{Branch}
use Rattle.v8_formats.specs.declared.instr.Three.{Three}
use Rattle.v8_formats.specs.declared.instr.Trap.{Trap}
use Rattle.v8_formats.specs.declared.instr.Two.{Two}
use Rattle.v8_formats.specs.declared.instr.Upper.{Upper}
use Rattle.v8_alu.specs.Outcomes.{divided, outcome, tagged_outcome}
use Rattle.v8_alu.specs.declared.AluOut.{AluOut}
use Rattle.v8_alu.specs.declared.Division.{Division}
use Rattle.v8_alu.specs.declared.Op.{Op}
use Rattle.v8_alu.specs.declared.TaggedOp.{TaggedOp}
use Rattle.v8_meaning.specs.Operands.{address, second}
use Rattle.v8_meaning.specs.Transfers.{bytes_in, exchanged_size, loaded, loaded_size}
use Rattle.v8_meaning.specs.declared.operation.Exchange.{Exchange as Exchanging}
use Rattle.v8_meaning.specs.declared.operation.Loading.{Loading}
use Rattle.v8_meaning.specs.declared.operation.Loading.TheVariants as loadings
use Rattle.v8_meaning.specs.declared.operation.MemoryOperand.{MemoryOperand}
use Rattle.v8_meaning.specs.declared.operation.Operation.TheVariants.{BranchOnCondition, Call, Compute, Divide}
use Rattle.v8_meaning.specs.declared.operation.Operation.TheVariants.{JumpAndLink, ReadY, Restore, Save, SetHigh}
use Rattle.v8_meaning.specs.declared.operation.Operation.TheVariants.{TaggedTrap, Transfer, TrapOnCondition, WriteY}
use Rattle.v8_meaning.specs.declared.operation.Transfer.TheVariants.{Exchange, Load, Store}
use Rattle.sbx_flat.specs.Effects.{high_word, service_of}
use Rattle.sbx_image.specs.Cell.{Cell}
use Rattle.sbx_image.specs.Range.{Range}
use Rattle.sbx_form.specs.Forms.{Cells}
use Rattle.sbx_domain.specs.Fits.{Fits, HasAlignment, HasInterval, Near, Words, with_word}
use Rattle.sbx_domain.specs.Known.{Known, range_at, range_of_entry, started}
use Rattle.sbx_domain.specs.Refining.{refined}
use Rattle.sbx_domain.specs.Transfer.{called, frame_word_of, result_entry, transferred}
use Rattle.sbx_fits.specs.Held.{AreFields, AreRestored, AreReturned, AreSaved, Held, IsOperand, Keeps, numbers}
use Rattle.sbx_fits.specs.Held.{tagged_value, with_location, with_pairs, with_result}

-- ---- results

abbrev pub ResultsKeepFitting : Type 0
ResultsKeepFitting =
    (frame : ℕ) (op : Op) (f : Three) (d : Known) (h : Held) → AreFields f
    → Keeps d (transferred frame (Compute op f) d) h
    (with_result f.rd (outcome op (h.words f.rs1) (second h.words f.operand2) h.icc h.y) h)

-- the quotient that a divisor 0 would deny too
abbrev pub QuotientsKeepFitting : Type 0
QuotientsKeepFitting =
    (frame : ℕ) (op : Division) (f : Three) (d : Known) (h : Held) → IsOperand f.operand2
    → Keeps d (transferred frame (Divide op f) d) h
    (with_result f.rd (divided op (h.words f.rs1) (second h.words f.operand2) h.icc h.y) h)

-- of the tagged operations that may trap, intervals and forms stay also where they would, whatever the codes
pub record TaggedResultsKeepFitting : Type 0 where
  pub near : (frame : ℕ) (op : TaggedOp) (f : Three) (start : Cells) (d : Known) (h : Held) (icc : Icc) →
      IsOperand f.operand2
      → Near start d h.words h.icc h.y
      → Near start (transferred frame (TaggedTrap op f) d)
      (with_word f.rd (tagged_value op (h.words f.rs1) (second h.words f.operand2)) h.words) icc h.y
  pub fits : (frame : ℕ) (op : TaggedOp) (f : Three) (d : Known) (h : Held) (out : AluOut) → IsOperand f.operand2
      → tagged_outcome op (h.words f.rs1) (second h.words f.operand2) h.icc h.y ≡ Some out
      → Keeps d (transferred frame (TaggedTrap op f) d) h (with_result f.rd out h)

-- ---- SETHI and Y

-- What fits before SETHI, RDY or WRY fits after it.
pub record MovesKeepFitting : Type 0 where
  pub set_high : (frame : ℕ) (f : Upper) (d : Known) (h : Held) →
      Keeps d (transferred frame (SetHigh f) d) h (with_location f.rd (high_word f) h)
  pub read_y : (frame rd : ℕ) (d : Known) (h : Held) →
      Keeps d (transferred frame (ReadY rd) d) h (with_location rd h.y h)
  pub write_y : (frame : ℕ) (f : Two) (d : Known) (h : Held) → IsOperand f.operand2
      → Keeps d (transferred frame (WriteY f) d) h
      (record h { y = bit_xor (h.words f.rs1) (second h.words f.operand2) })

-- ---- loads and stores

-- of data: any number of the size may come in, and what goes out changes no location
pub record DataKeepsFitting : Type 0 where
  pub load : (frame : ℕ) (l : Loading) (m : MemoryOperand) (d : Known) (h : Held) (n : ℕ) →
      frame_word_of frame m ≡ None → n < 2 ^ (8 * bytes_in (loaded_size l))
      → Keeps d (transferred frame (Transfer (Load l) m) d) h (with_pairs (loaded l m.rd n) h)
  pub store : (frame : ℕ) (size : Size) (m : MemoryOperand) (d : Known) (h : Held) → frame_word_of frame m ≡ None
      → Keeps d (transferred frame (Transfer (Store size) m) d) h h
  pub exchange : (frame : ℕ) (e : Exchanging) (m : MemoryOperand) (d : Known) (h : Held) (n : ℕ) →
      n < 2 ^ (8 * bytes_in (exchanged_size e))
      → Keeps d (transferred frame (Transfer (Exchange e) m) d) h (with_location m.rd n h)

-- of a frame word
pub record FrameWordsKeepFitting : Type 0 where
  pub load : (frame l : ℕ) (m : MemoryOperand) (d : Known) (h : Held) → frame_word_of frame m ≡ Some l
      → Keeps d (transferred frame (Transfer (Load loadings.Word) m) d) h (with_location m.rd (h.words l) h)
  pub store : (frame l : ℕ) (m : MemoryOperand) (d : Known) (h : Held) → frame_word_of frame m ≡ Some l
      → Keeps d (transferred frame (Transfer (Store sizes.Word) m) d) h (with_location l (h.words m.rd) h)

-- ---- windows and calls

-- What fits before SAVE or RESTORE fits after it, whatever the fresh words are.
pub record FramesKeepFitting : Type 0 where
  pub save : (frame : ℕ) (f : Three) (d : Known) (h k : Held) → AreSaved h k →
      Keeps d (transferred frame (Save f) d) h k
  pub restore : (frame : ℕ) (f : Three) (d : Known) (h : Held) (after : Words) → IsOperand f.operand2 →
      AreRestored h.words after
      → Keeps d (transferred frame (Restore f) d) h
      (record h { words = with_word f.rd (address h.words f.rs1 f.operand2) after })

-- What fits before a CALL fits in its slot, and again where the callee has returned.
pub record CallsKeepFitting : Type 0 where
  -- the CALL itself, of whose link nothing is known
  pub link : (frame displacement v : ℕ) (d : Known) (h : Held) → v < 2 ^ 32 →
      Keeps d (transferred frame (Call displacement) d) h (with_location 15 v h)
  -- where the callee has returned with these results
  pub returned_near : (results : List Range) (start : Cells) (d : Known) (h k : Held) → AreReturned h k
      → ((l : ℕ) → HasInterval (range_of_entry (result_entry results l)) (k.words l))
      → Near start d h.words h.icc h.y → Near start (called results d) k.words k.icc k.y
  pub returned_fits : (results : List Range) (start : Cells) (d : Known) (h k : Held) → AreReturned h k
      → ((l : ℕ) → HasInterval (range_of_entry (result_entry results l)) (k.words l))
      → ((l : ℕ) → HasAlignment (range_of_entry (result_entry results l)) (k.words l))
      → Fits start d h.words h.icc h.y → Fits start (called results d) k.words k.icc k.y

-- ---- services, and the other transfers of control

-- What fits before a service or a transfer of control fits after it.
pub record ServicesKeepFitting : Type 0 where
  pub get_byte : (frame n : ℕ) (t : Trap) (d : Known) (h : Held) → service_of t ≡ Some 1 → n < 2 ^ 8
      → Keeps d (transferred frame (TrapOnCondition t) d) h (with_location 8 n h)
  pub get_end : (frame : ℕ) (t : Trap) (d : Known) (h : Held) → service_of t ≡ Some 1
      → Keeps d (transferred frame (TrapOnCondition t) d) h (with_location 8 (2 ^ 32 - 1) h)
  pub others : (frame : ℕ) (t : Trap) (d : Known) → (service_of t ≡ Some 1 → ⊥) →
      transferred frame (TrapOnCondition t) d ≡ d
  pub branch : (frame : ℕ) (b : Branch) (d : Known) → transferred frame (BranchOnCondition b) d ≡ d
  pub jump : (frame : ℕ) (f : Three) (d : Known) → transferred frame (JumpAndLink f) d ≡ d

-- ---- branches and blocks

-- where the condition holds of the codes, the way is possible, and what is known there fits
pub record RefinementKeepsFitting : Type 0 where
  pub near : (cond : Cond) (start : Cells) (d : Known) (words : Words) (icc : Icc) (y : ℕ) → holds cond icc ≡ true →
      Near start d words icc y
      → (e : Known) × (refined cond d ≡ Some e) × Near start e words icc y
  pub fits : (cond : Cond) (start : Cells) (d : Known) (words : Words) (icc : Icc) (y : ℕ) → holds cond icc ≡ true →
      Fits start d words icc y
      → (e : Known) × (refined cond d ≡ Some e) × Fits start e words icc y

-- A block starts from its words' numbers, where its cells hold them.
pub record StartsFit : Type 0 where
  pub near : (cells : List Cell) (words : Words) (icc : Icc) (y : ℕ) → ((l : ℕ) → words l < 2 ^ 32) → words 0 ≡ 0 →
      y < 2 ^ 32
      → ((l : ℕ) → HasInterval (range_at (started cells) l) (words l))
      → Near (numbers words) (started cells) words icc y
  pub fits : (cells : List Cell) (words : Words) (icc : Icc) (y : ℕ) → ((l : ℕ) → words l < 2 ^ 32) → words 0 ≡ 0 →
      y < 2 ^ 32
      → ((l : ℕ) → HasInterval (range_at (started cells) l) (words l)) →
      ((l : ℕ) → HasAlignment (range_at (started cells) l) (words l))
      → Fits (numbers words) (started cells) words icc y
