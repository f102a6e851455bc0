-- What a window overflow and its handler leave.
use Rattle.std.specs.Prelude.{ℕ, ◌≡◌, ◌^◌, ◌<◌, true, List}
use Rattle.v8_core.specs.Three.{Three}
use Rattle.v8_core.specs.Operation.TheVariants.{Save}
use Rattle.v8_core.specs.MmuRegs.{MmuRegs}
use Rattle.v8_core.specs.Windows.{IsFile, word_at, below}
use Rattle.v8_core.specs.Cpu.{Cpu}
use Rattle.v8_core.specs.Accesses.{World}
use Rattle.v8_loaded.specs.Layout.{Pages, IsLoaded}
use Rattle.v8_loaded.specs.Board.{Device, board}
use Rattle.v8_loaded.specs.Areas.{HasFrame, HasRoom, IsFrame, SameBut, area_of}
use Rattle.v8_loaded.specs.Places.{entered_window}
use Rattle.v8_loaded.specs.Turns.{world_after}
use Rattle.v8_loaded.specs.Users.{AsksFor, IsHandled, RunsUser}

-- ---- before

-- the window below the one that the SAVE enters, whose words the handler stores
abbrev pub spilled_window : (n : ℕ) → Cpu n → ℕ
spilled_window n cpu = below n (entered_window n cpu)

-- register 14 of that window
abbrev pub stack_pointer : (n : ℕ) → Cpu n → ℕ
stack_pointer n cpu = word_at cpu.regs (spilled_window n cpu) 6

-- User code that comes to a SAVE, the code word i, into the window that WIM forbids.
pub record Overflows (n : ℕ) (g : Pages) (words : List ℕ) (mmu : MmuRegs) (old : World n Device) (i : ℕ) : Type 0 where
  pub user : RunsUser n g words mmu old i
  pub mask : old.cpu.regs.mask ≡ 2 ^ entered_window n old.cpu
  pub saves : (f : Three) × AsksFor words i (Save f)

-- ---- afterwards

-- WIM's bit is that of the stored window. Of the registers only the locals of the entered window differ, of the state
-- registers only PS and tt.
pub record Spills (n : ℕ) (old new : Cpu n) : Type 0 where
  pub mask : new.regs.mask ≡ 2 ^ spilled_window n old
  pub current : new.regs.current ≡ old.regs.current
  pub globals : new.regs.globals ≡ old.regs.globals
  pub kept : (w j : ℕ) → (w ≡ entered_window n old → j < 8) → word_at new.regs w j ≡ word_at old.regs w j
  pub file : IsFile n new.regs
  pub control : new.control ≡ record old.control { ps = old.control.s; tt = 5 }

-- The 64 bytes at the stored window's %sp hold its locals and ins, as the handler of underflow asks for them, and no
-- other byte above the tables differs. The tables, R and M aside, the trap table, the handlers and the code are as
-- loaded; the device is as it was.
pub record Spilled (n : ℕ) (g : Pages) (words : List ℕ) (old new : World n Device) (i : ℕ) : Type 0 where
  pub cpu : Spills n old.cpu new.cpu
  pub stored : IsFrame old.cpu.regs (spilled_window n old.cpu) (entered_window n old.cpu)
      (area_of (stack_pointer n old.cpu)) new.memory.ram
  pub frame : HasFrame g new.memory.ram (stack_pointer n old.cpu)
  pub ram : SameBut i (area_of (stack_pointer n old.cpu)) 64 old.memory.ram new.memory.ram
  pub loaded : IsLoaded n g words new.memory.ram
  pub device : new.memory.device ≡ old.memory.device

-- 24 turns: the trap of window_overflow, and 23 that run and store
pub record Handled (n : ℕ) (g : Pages) (words : List ℕ) (mmu : MmuRegs) (old : World n Device) (i : ℕ) : Type 0 where
  pub turns : IsHandled n words mmu old i 5 (stack_pointer n old.cpu) true
  pub spilled : Spilled n g words old (world_after board n mmu 24 old) i

abbrev pub OverflowLaw : Type 0
OverflowLaw =
    (n : ℕ) (g : Pages) (words : List ℕ) (mmu : MmuRegs) (old : World n Device) (i : ℕ) →
    Overflows n g words mmu old i → HasRoom g (stack_pointer n old.cpu) → Handled n g words mmu old i
