-- What the handlers of window traps mark: the pages of the 64 bytes that they store or load.
use Rattle.std.specs.Prelude.{ℕ, ◌≡◌, ◌+◌, ◌<◌, ◌||◌, Bool, true, false, List, Option, if◌then◌else◌}
use Rattle.v8_core.specs.MmuRegs.{MmuRegs}
use Rattle.v8_core.specs.Accesses.{World}
use Rattle.v8_contained.specs.Layout.{Pages}
use Rattle.v8_contained.specs.Board.{Device, board}
use Rattle.v8_loaded.specs.Areas.{HasFrame, HasRoom}
use Rattle.v8_loaded.specs.Turns.{world_after}
use Rattle.v8_routines.specs.Overflow.{Overflows, stack_pointer as spilled_pointer}
use Rattle.v8_routines.specs.Underflow.{Underflows, stack_pointer as refilled_pointer}
use Rattle.v8_marks.specs.Marks.{entry_at, is_in, reached, with_mark}

-- some of the 64 bytes from an address on lie in page i: they lie in the page of the first and in that of the last
abbrev pub holds_some : ℕ → ℕ → Bool
holds_some i sp = is_in i sp || is_in i (sp + 63)

-- the entry of page i after a fetch, and after the 64 bytes were stored or loaded
abbrev pub after_handler : ℕ → ℕ → ℕ → Bool → Option ℕ → Option ℕ
after_handler i pc sp store entry =
    if holds_some i sp then with_mark store (reached i pc false entry) else reached i pc false entry

-- a SAVE that traps, and the 23 turns of its handler
abbrev pub OverflowMarks : Type 0
OverflowMarks =
    (n : ℕ) (g : Pages) (words : List ℕ) (mmu : MmuRegs) (x : World n Device) (k i : ℕ) → Overflows n g words mmu x k →
    HasRoom g (spilled_pointer n x.cpu) → i < 192 →
    entry_at (world_after board n mmu 24 x).memory.ram i ≡
    after_handler i x.cpu.control.pc (spilled_pointer n x.cpu) true (entry_at x.memory.ram i)

-- a RESTORE that traps, and its handler's
abbrev pub UnderflowMarks : Type 0
UnderflowMarks =
    (n : ℕ) (g : Pages) (words : List ℕ) (mmu : MmuRegs) (x : World n Device) (k i : ℕ) → Underflows n g words mmu x k →
    HasFrame g x.memory.ram (refilled_pointer n x.cpu) → i < 192 →
    entry_at (world_after board n mmu 24 x).memory.ram i ≡
    after_handler i x.cpu.control.pc (refilled_pointer n x.cpu) false (entry_at x.memory.ram i)
