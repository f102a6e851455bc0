-- What a window underflow and its handler leave.
use Rattle.std.specs.Prelude.{ℕ, ◌≡◌, ◌^◌, ◌<◌, ◌≤◌, false, List}
use Rattle.v8_core.specs.Three.{Three}
use Rattle.v8_core.specs.Operation.TheVariants.{Restore}
use Rattle.v8_core.specs.MmuRegs.{MmuRegs}
use Rattle.v8_core.specs.Windows.{IsFile, word_at, above}
use Rattle.v8_core.specs.Cpu.{Cpu}
use Rattle.v8_core.specs.Accesses.{World}
use Rattle.v8_loaded.specs.Layout.{Pages, IsLoaded}
use Rattle.v8_loaded.specs.Board.{Device, board}
use Rattle.v8_loaded.specs.Areas.{HasFrame, IsFrame, SameBut, area_of}
use Rattle.v8_loaded.specs.Places.{entered_window}
use Rattle.v8_loaded.specs.Turns.{world_after}
use Rattle.v8_loaded.specs.Users.{AsksFor, IsHandled, RunsUser}

-- ---- before

-- the window that a RESTORE enters, whose words the handler loads
abbrev pub refilled_window : (n : ℕ) → Cpu n → ℕ
refilled_window n cpu = above n cpu.regs.current

-- the one above it, whose outs are its ins
abbrev pub next_window : (n : ℕ) → Cpu n → ℕ
next_window n cpu = above n (refilled_window n cpu)

-- register 14 of the window to be loaded
abbrev pub stack_pointer : (n : ℕ) → Cpu n → ℕ
stack_pointer n cpu = word_at cpu.regs (refilled_window n cpu) 6

-- User code that comes to a RESTORE, the code word i, into the window that WIM forbids.
pub record Underflows (n : ℕ) (g : Pages) (words : List ℕ) (mmu : MmuRegs) (old : World n Device) (i : ℕ) : Type 0 where
  pub user : RunsUser n g words mmu old i
  pub mask : old.cpu.regs.mask ≡ 2 ^ refilled_window n old.cpu
  pub restores : (f : Three) × AsksFor words i (Restore f)

-- ---- afterwards

-- WIM's bit is that of the window above the loaded one. Of the registers only the loaded ones and the locals of the
-- entered window differ, of the state registers only PS and tt.
pub record Refills (n : ℕ) (old new : Cpu n) : Type 0 where
  pub mask : new.regs.mask ≡ 2 ^ next_window n old
  pub current : new.regs.current ≡ old.regs.current
  pub globals : new.regs.globals ≡ old.regs.globals
  pub kept : (w j : ℕ) → (w ≡ refilled_window n old → j < 8) → (w ≡ next_window n old → 8 ≤ j) →
      (w ≡ entered_window n old → j < 8) →
      word_at new.regs w j ≡ word_at old.regs w j
  pub file : IsFile n new.regs
  pub control : new.control ≡ record old.control { ps = old.control.s; tt = 6 }

-- The window has the words of the 64 bytes at its %sp, and no byte above the tables differs. The tables, R and M aside,
-- the trap table, the handlers and the code are as loaded; the device is as it was.
pub record Refilled (n : ℕ) (g : Pages) (words : List ℕ) (old new : World n Device) (i : ℕ) : Type 0 where
  pub cpu : Refills n old.cpu new.cpu
  pub window : IsFrame new.cpu.regs (refilled_window n old.cpu) (next_window n old.cpu)
      (area_of (stack_pointer n old.cpu)) old.memory.ram
  pub ram : SameBut i (area_of (stack_pointer n old.cpu)) 0 old.memory.ram new.memory.ram
  pub loaded : IsLoaded n g words new.memory.ram
  pub device : new.memory.device ≡ old.memory.device

-- 24 turns: the trap of window_underflow, and 23 that run and load
pub record Handled (n : ℕ) (g : Pages) (words : List ℕ) (mmu : MmuRegs) (old : World n Device) (i : ℕ) : Type 0 where
  pub turns : IsHandled n words mmu old i 6 (stack_pointer n old.cpu) false
  pub refilled : Refilled n g words old (world_after board n mmu 24 old) i

abbrev pub UnderflowLaw : Type 0
UnderflowLaw =
    (n : ℕ) (g : Pages) (words : List ℕ) (mmu : MmuRegs) (old : World n Device) (i : ℕ) →
    Underflows n g words mmu old i → HasFrame g old.memory.ram (stack_pointer n old.cpu) → Handled n g words mmu old i
