-- User code on a loaded board.
use Rattle.std.specs.Prelude.{ℕ, suc, ◌≡◌, ◌+◌, ◌*◌, ◌%◌, ◌^◌, ◌<◌, Bool, true, false, List, slice_index, Some, None}
use Rattle.v8_core.specs.Table.{meaning}
use Rattle.v8_core.specs.Operations.{operation_of}
use Rattle.v8_core.specs.Operation.{Operation}
use Rattle.v8_core.specs.Walked.{root_of}
use Rattle.v8_core.specs.MmuRegs.{MmuRegs}
use Rattle.v8_core.specs.Windows.{Windows, IsFile}
use Rattle.v8_core.specs.Cpu.{Cpu}
use Rattle.v8_core.specs.declared.turn.Event.TheVariants.{Trapped}
use Rattle.v8_core.specs.Accesses.{World}
use Rattle.v8_core.specs.Steps.{next, turn_of}
use Rattle.v8_map.specs.declared.TheConstants.{CODE_START, TRAP_TABLE, CONTEXT_TABLE}
use Rattle.v8_layout.specs.Layout.{Pages, AreFew, IsLoaded}
use Rattle.v8_memory.specs.Board.{Device, board}
use Rattle.v8_loaded.specs.Turns.{IsHandlers, turn_at}

-- User code on a loaded board, about to run the code word i. The next place may be any place of a word, so the word may
-- stand in a delay slot.
pub record RunsUser (n : ℕ) (g : Pages) (words : List ℕ) (mmu : MmuRegs) (x : World n Device) (i : ℕ) : Type 0 where
  pub file : IsFile n x.cpu.regs
  pub user : x.cpu.control.s ≡ false
  pub traps : x.cpu.control.et ≡ true
  pub straight : x.cpu.control.annul ≡ false
  pub sane : x.cpu.control.error ≡ None
  pub table : x.cpu.control.base ≡ TRAP_TABLE
  pub place : x.cpu.control.pc ≡ CODE_START + 4 * i
  pub within : i < 1024 * g.code_count
  pub npc_word : x.cpu.control.npc < 2 ^ 32
  pub npc_whole : x.cpu.control.npc % 4 ≡ 0
  pub few : AreFew g
  pub loaded : IsLoaded n g words x.memory.ram
  pub root : root_of mmu ≡ CONTEXT_TABLE
  pub running : x.memory.device.stopped ≡ None

-- the code word i asks for this operation
abbrev pub AsksFor : List ℕ → ℕ → Operation → Type 0
AsksFor words i op = operation_of (meaning (slice_index words i)) ≡ op

-- In the vector of a trap of type t: supervisor mode, traps disabled, with these registers, PC and nPC.
abbrev pub in_vector : (n : ℕ) → Cpu n → ℕ → Windows → ℕ → ℕ → Cpu n
in_vector n c t regs pc npc =
    record {
      regs = regs;
      control =
          record c.control { et = false; ps = c.control.s; s = true; annul = false; tt = t; pc = pc; npc = npc };
    }

-- The code word i takes a window trap of type t, and 23 turns of its vector and handler follow, which store or load in
-- the 64 bytes from an address on and reach nothing else.
pub record IsHandled (n : ℕ) (words : List ℕ) (mmu : MmuRegs) (old : World n Device) (i t sp : ℕ)
    (store : Bool) : Type 0 where
  pub trap : (next board n mmu old).0 ≡ turn_of n old.cpu (Trapped t) (Some (slice_index words i)) None
  pub turns : (k : ℕ) → k < 23 → IsHandlers sp 64 store (turn_at board n mmu (suc k) old)
