-- Which entries of pages a turn marks (appendix H, "referenced and modified"): those of its fetch and of its access.
use Rattle.std.specs.Prelude.{ℕ, ◌≡◌, ◌+◌, ◌*◌, ◌/◌, ◌<◌, ◌==◌, Bool, false, List, Option, Some, None, if◌then◌else◌}
use Rattle.v8_core.specs.Ram.{entry_of}
use Rattle.v8_core.specs.Paths.{marked}
use Rattle.v8_core.specs.MmuRegs.{MmuRegs}
use Rattle.v8_core.specs.declared.turn.DataAccess.{DataAccess}
use Rattle.v8_core.specs.declared.turn.Turn.{Turn}
use Rattle.v8_core.specs.Accesses.{World}
use Rattle.v8_core.specs.Steps.{next}
use Rattle.v8_map.specs.declared.TheConstants.{PAGE, CODE_START, CODE_TABLE}
use Rattle.v8_contained.specs.Layout.{Pages}
use Rattle.v8_contained.specs.Board.{Device, board}
use Rattle.v8_contained.specs.Contained.{Contents, IsContained}

-- the entry of page i: 0 to 63 are the pages of code, 64 to 127 those of data, 128 to 191 those of the stack
abbrev pub entry_at : List ℕ → ℕ → Option ℕ
entry_at ram i = entry_of ram (CODE_TABLE + 4 * i)

-- an address lies in page i
abbrev pub is_in : ℕ → ℕ → Bool
is_in i va = va / PAGE == CODE_START / PAGE + i

-- an entry with R, and M for a store
abbrev pub with_mark : Bool → Option ℕ → Option ℕ
with_mark store None = None
with_mark store (Some w) = Some (marked w store)

-- the entry of page i after an address was reached
abbrev pub reached : ℕ → ℕ → Bool → Option ℕ → Option ℕ
reached i va store entry = if is_in i va then with_mark store entry else entry

-- after the fetch of a turn, where there was a word
abbrev pub after_fetch : ℕ → ℕ → Option ℕ → Option ℕ → Option ℕ
after_fetch i pc None entry = entry
after_fetch i pc (Some word) entry = reached i pc false entry

-- after its access
abbrev pub after_access : ℕ → Option DataAccess → Option ℕ → Option ℕ
after_access i None entry = entry
after_access i (Some a) entry = reached i a.va a.store entry

abbrev pub after_turn : ℕ → Turn → Option ℕ → Option ℕ
after_turn i turn entry = after_access i turn.access (after_fetch i turn.pc turn.word entry)

abbrev pub TurnsMark : Type 0
TurnsMark =
    (n : ℕ) (g : Pages) (held : Contents) (mmu : MmuRegs) (x : World n Device) (i : ℕ) → IsContained n g held mmu x →
    i < 192 →
    entry_at (next board n mmu x).1.memory.ram i ≡ after_turn i (next board n mmu x).0 (entry_at x.memory.ram i)
