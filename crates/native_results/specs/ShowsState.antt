-- Which flat states a program's world shows.
use Rattle.std.specs.Prelude.{◌≡◌, ℕ, ◌+◌, ◌-◌, ◌^◌, ◌<◌, ◌≤◌, nat_lt, if◌then◌else◌, List, [], ◌∷◌, length, Some}
use Rattle.std.specs.Prelude.{slice_index}
use Rattle.v8_alu.specs.Results.{from_flag}
use Rattle.v8_word.specs.declared.Icc.{Icc}
use Rattle.sbx_image.specs.Parts.{Parts}
use Rattle.sbx_flat.specs.Calls.{slot}
use Rattle.sbx_flat.specs.Memory.{Bytes}
use Rattle.sbx_flat.specs.Registers.{Frame, Fresh, Registers, Words, ins_of, word_in}
use Rattle.sbx_flat.specs.States.{State}
use Rattle.native_lang.specs.declared.state.SavedWindow.{SavedWindow}
use Rattle.native_lang.specs.Memory.{number_in}
use Rattle.native_lang.specs.World.{World}

-- ---- registers, codes and Y

-- variables 0 to 31 are the registers
abbrev pub ShowsRegisters : List ℕ → Registers → Type 0
ShowsRegisters variables file = (r : ℕ) → r < 32 → word_in file r ≡ slice_index variables r

-- 32 to 35 are N, Z, V and C
pub record ShowsCodes (variables : List ℕ) (icc : Icc) : Type 0 where
  pub n : slice_index variables 32 ≡ from_flag icc.n
  pub z : slice_index variables 33 ≡ from_flag icc.z
  pub v : slice_index variables 34 ≡ from_flag icc.v
  pub c : slice_index variables 35 ≡ from_flag icc.c

-- ---- the calls that wait

-- A saved window has a caller's locals, and its ins, which are the outs of the caller before it. Its outs are the ins
-- of the call after it.
pub record ShowsWindow (m : SavedWindow) (f : Frame) (ins : Words) : Type 0 where
  pub locals : (k : ℕ) → k < 8 → f.locals (16 + k) ≡ slice_index m.locals k
  pub ins_read : (k : ℕ) → k < 8 → ins (24 + k) ≡ slice_index m.ins k

-- each caller, the last one first
abbrev pub ShowsWindows : List SavedWindow → List Frame → Words → Type 0
ShowsWindows [] [] oldest = Unit
ShowsWindows (m ∷ ms) (f ∷ fs) oldest = ShowsWindow m f (ins_of fs oldest) × ShowsWindows ms fs oldest
ShowsWindows _ _ oldest = ⊥

-- ---- the block, in which data and frames have their addresses

-- the word of four bytes at an address
abbrev pub block_word : List ℕ → ℕ → ℕ
block_word block a = number_in block (a - 0x80000) 4

-- each slot of each call
abbrev pub ShowsFrameWords : List ℕ → Registers → Type 0
ShowsFrameWords block file = (k a word : ℕ) → slot file k a ≡ Some word → block_word block a ≡ word

-- A byte of the data, which lie below all frames.
pub record IsBlockByte (block : List ℕ) (a byte : ℕ) : Type 0 where
  pub from : 0x80000 ≤ a
  pub to : a < 0xF0000
  pub is : slice_index block (a - 0x80000) ≡ byte

abbrev pub ShowsBytes : List ℕ → Bytes → Type 0
ShowsBytes block memory = (a byte : ℕ) → memory a ≡ Some byte → IsBlockByte block a byte

-- ---- the state

-- The world and the flat state of a run of these parts hold the same, but for the place in the code, which the program's
-- point says, and the exit word.
pub record ShowsState (parts : Parts) (w : World) (s : State) : Type 0 where
  pub variables : length w.variables ≡ 256
  pub registers : ShowsRegisters w.variables s.registers
  pub icc : ShowsCodes w.variables s.icc
  pub y : slice_index w.variables 36 ≡ s.y
  pub windows : ShowsWindows w.saved s.registers.older s.registers.oldest_ins
  pub block : length w.block ≡ 524288
  pub block_bytes : (k : ℕ) → slice_index w.block k < 2 ^ 8
  pub slots : ShowsFrameWords w.block s.registers
  pub memory : ShowsBytes w.block s.memory
  pub input : w.input ≡ s.input
  pub output : w.output ≡ s.output
  -- so no frame lies lower than 000F0000
  pub pages : parts.stack_pages ≤ 16

-- ---- a new frame

-- what its registers hold: the words that were there
abbrev pub left_word : World → Words
left_word w n = if nat_lt n 32 then slice_index w.variables n else 0

-- the words that a new frame finds there
abbrev pub fresh_words : World → Fresh
fresh_words w = record { locals = left_word w; outs = left_word w; slots = block_word w.block }
