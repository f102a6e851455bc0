-- What a run holds between two words, by location, and how operations leave it.
use Rattle.std.specs.Prelude.{ℕ, ◌+◌, ◌-◌, ◌<◌, ◌^◌, ◌≡◌, false, true, List, [], ◌∷◌}
use Rattle.v8_word.specs.declared.Icc.{Icc}
use Rattle.v8_formats.specs.declared.instr.Operand.{Operand}
use Rattle.v8_formats.specs.declared.instr.Operand.TheVariants.{Register, Immediate}
use Rattle.v8_formats.specs.declared.instr.Three.{Three}
use Rattle.v8_alu.specs.Results.{difference, signed, sum}
use Rattle.v8_alu.specs.declared.AluOut.{AluOut}
use Rattle.v8_alu.specs.declared.TaggedOp.{TaggedOp}
use Rattle.v8_alu.specs.declared.TaggedOp.TheVariants.{TaggedAdd, TaggedSub}
use Rattle.sbx_form.specs.Forms.{Cells}
use Rattle.sbx_domain.specs.Fits.{Fits, Near, Words, with_word}
use Rattle.sbx_domain.specs.Known.{Known}
use Rattle.sbx_domain.specs.Transfer.{is_global, is_in, is_kept_by_calls, is_out}

-- the words of the locations, the codes and Y
pub record Held : Type 0 where
  pub words : Words
  pub icc : Icc
  pub y : ℕ

-- What was known before, and what is known after, of what is held before and after: it keeps fitting. Intervals, forms
-- and the relation stay by themselves, whatever the multiples are.
pub record Keeps (d e : Known) (h k : Held) : Type 0 where
  pub near : (start : Cells) → Near start d h.words h.icc h.y → Near start e k.words k.icc k.y
  pub fits : (start : Cells) → Fits start d h.words h.icc h.y → Fits start e k.words k.icc k.y

-- ---- fields of an operation

-- an immediate is a word
abbrev pub IsOperand : Operand → Type 0
IsOperand (Register r) = Unit {0}
IsOperand (Immediate w) = w < 2 ^ 32

-- Fields as a decoded instruction has them: a register's number, and an operand that is a register or a word.
pub record AreFields (f : Three) : Type 0 where
  pub rd : f.rd < 32
  pub operand2 : IsOperand f.operand2

-- ---- what operations leave

abbrev pub with_location : ℕ → ℕ → Held → Held
with_location l v h = record h { words = with_word l v h.words }

abbrev pub with_result : ℕ → AluOut → Held → Held
with_result rd out h = record { words = with_word rd out.value h.words; icc = out.icc; y = out.y }

-- what comes in, as a machine writes it: the last pair first
abbrev pub with_pairs : List (ℕ × ℕ) → Held → Held
with_pairs [] h = h
with_pairs (p ∷ ps) h = with_location p.0 p.1 (with_pairs ps h)

-- a tagged result where it would trap too
abbrev pub tagged_value : TaggedOp → ℕ → ℕ → ℕ
tagged_value TaggedAdd a b = sum a b false
tagged_value TaggedSub a b = difference a b false

-- Words after a SAVE: ins are the outs from before, all else is open.
pub record AreSaved (h k : Held) : Type 0 where
  pub are_words : (l : ℕ) → k.words l < 2 ^ 32
  pub zero : k.words 0 ≡ 0
  pub ins : (l : ℕ) → is_in l ≡ true → k.words l ≡ h.words (l - 16)
  pub y_word : k.y < 2 ^ 32

-- Words after a RESTORE, before it writes rd: globals stay, outs are the ins from before, all else is open.
pub record AreRestored (before after : Words) : Type 0 where
  pub are_words : (l : ℕ) → after l < 2 ^ 32
  pub zero : after 0 ≡ 0
  pub globals : (l : ℕ) → is_global l ≡ true → after l ≡ before l
  pub outs : (l : ℕ) → is_out l ≡ true → after l ≡ before (l + 16)

-- Words after a call: locals, ins and frame words stay, all else is open.
pub record AreReturned (h k : Held) : Type 0 where
  pub are_words : (l : ℕ) → k.words l < 2 ^ 32
  pub zero : k.words 0 ≡ 0
  pub kept : (l : ℕ) → is_kept_by_calls l ≡ true → k.words l ≡ h.words l
  pub y_word : k.y < 2 ^ 32

-- the numbers that a block starts with
abbrev pub numbers : Words → Cells
numbers words l = signed (words l)
