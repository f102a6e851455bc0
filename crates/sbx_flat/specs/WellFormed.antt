-- What every state that a run reaches keeps: words are words, bytes are bytes, and the open calls stand one below the
-- other on the stack.
use Rattle.std.specs.Prelude.{ℕ, ◌≡◌, ◌+◌, ◌*◌, ◌%◌, ◌^◌, ◌<◌, ◌≤◌, Some, IfSome}
use Rattle.std.specs.List.{AllByRecursion}
use Rattle.v8_map.specs.declared.TheConstants.{PAGE, STACK_END}
use Rattle.sbx_flat.specs.Calls.{base, depth, slot}
use Rattle.sbx_flat.specs.Memory.{Bytes}
use Rattle.sbx_flat.specs.Registers.{AreWords, Frame, Registers}
use Rattle.sbx_flat.specs.Runs.{AreBytes}
use Rattle.sbx_flat.specs.States.{State}

-- What a frame holds are words.
pub record HasWords (f : Frame) : Type 0 where
  pub locals : AreWords f.locals
  pub outs : AreWords f.outs
  pub slots : (address word : ℕ) → f.slots address ≡ Some word → word < 2 ^ 32

-- What all registers and slots hold are words.
pub record AreRegisters (file : Registers) : Type 0 where
  pub globals : AreWords file.globals
  pub newest : HasWords file.newest
  pub older : AllByRecursion HasWords file.older
  pub oldest_ins : AreWords file.oldest_ins

-- Each call has 64 bytes from its base on, a multiple of 8, in the stack's pages, and below those of every older call.
pub record IsStacked (pages : ℕ) (file : Registers) : Type 0 where
  pub aligned : (k : ℕ) → k < depth file → base file k % 8 ≡ 0
  pub low : (k : ℕ) → k < depth file → STACK_END ≤ base file k + PAGE * pages
  pub high : (k : ℕ) → k < depth file → base file k + 64 ≤ STACK_END
  pub apart : (k i : ℕ) → k < i → i < depth file → base file k + 64 ≤ base file i

-- where a call has its slots: above its 64 bytes, and below every older call's
pub record IsSlot (file : Registers) (k a : ℕ) : Type 0 where
  pub aligned : a % 4 ≡ 0
  pub low : base file k + 64 ≤ a
  pub high : a + 4 ≤ STACK_END
  pub below : (i : ℕ) → k < i → i < depth file → a + 4 ≤ base file i

abbrev pub HasSlots : Registers → Type 0
HasSlots file = (k a w : ℕ) → k < depth file → slot file k a ≡ Some w → IsSlot file k a

-- The open calls: words in their registers and slots, one below the other on the stack, each with slots of its own.
pub record AreCalls (pages : ℕ) (file : Registers) : Type 0 where
  pub words : AreRegisters file
  pub stacked : IsStacked pages file
  pub slots : HasSlots file

abbrev pub AreData : Bytes → Type 0
AreData memory = (address byte : ℕ) → memory address ≡ Some byte → byte < 2 ^ 8

-- an address of an instruction
pub record IsPlace (pc : ℕ) : Type 0 where
  pub word : pc < 2 ^ 32
  pub whole : pc % 4 ≡ 0

-- A state of an image of so many stack pages.
pub record IsWellFormed (pages : ℕ) (s : State) : Type 0 where
  pub pc : IsPlace s.pc
  pub npc : IsPlace s.npc
  pub y : s.y < 2 ^ 32
  pub calls : AreCalls pages s.registers
  pub memory : AreData s.memory
  pub input : AreBytes s.input
  pub output : AreBytes s.output
  pub exit : IfSome s.exit (λ word. word < 2 ^ 32)
