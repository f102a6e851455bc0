-- What user code marks: its turns, and its calls of services.
use Rattle.std.specs.Prelude.{ℕ, ◌≡◌, ◌<◌, Bool, false, List, Option, Some, None}
use Rattle.v8_core.specs.Operation.{Operation}
use Rattle.v8_core.specs.Operation.TheVariants.{Transfer}
use Rattle.v8_core.specs.Transfers.{writes_memory}
use Rattle.v8_core.specs.MmuRegs.{MmuRegs}
use Rattle.v8_core.specs.Cpu.{Cpu}
use Rattle.v8_core.specs.declared.turn.Event.TheVariants.{Ran}
use Rattle.v8_core.specs.Accesses.{World, place_of}
use Rattle.v8_core.specs.Steps.{next}
use Rattle.v8_contained.specs.Layout.{Pages}
use Rattle.v8_contained.specs.Board.{Device, board}
use Rattle.v8_loaded.specs.Turns.{world_after}
use Rattle.v8_loaded.specs.Users.{AsksFor, RunsUser}
use Rattle.v8_routines.specs.Services.{Calls, MayReturn}
use Rattle.v8_marks.specs.Marks.{entry_at, reached}

-- what an operation reaches where it takes no trap: an address, and whether it stores there
abbrev pub reach_of : (n : ℕ) → Cpu n → Operation → Option (ℕ × Bool)
reach_of n cpu (Transfer t o) = Some (place_of n cpu o, writes_memory t)
reach_of n cpu _ = None

-- the entry of page i after that
abbrev pub after_reach : ℕ → Option (ℕ × Bool) → Option ℕ → Option ℕ
after_reach i None entry = entry
after_reach i (Some r) entry = reached i r.0 r.1 entry

-- user code at the code word k that runs, and asks for this operation
abbrev pub UsersMark : Type 0
UsersMark =
    (n : ℕ) (g : Pages) (words : List ℕ) (mmu : MmuRegs) (x : World n Device) (k : ℕ) → RunsUser n g words mmu x k →
    (i : ℕ) → i < 192 → (op : Operation) → AsksFor words k op → (next board n mmu x).0.event ≡ Ran →
    entry_at (next board n mmu x).1.memory.ram i ≡
    after_reach i (reach_of n x.cpu op) (reached i x.cpu.control.pc false (entry_at x.memory.ram i))

-- so many turns after it was called, the entries are those after the fetch of the call
abbrev pub MarksTheCall : (n : ℕ) → MmuRegs → World n Device → ℕ → Type 0
MarksTheCall n mmu x turns = (i : ℕ) → i < 192 →
    entry_at (world_after board n mmu turns x).memory.ram i ≡ reached i x.cpu.control.pc false (entry_at x.memory.ram i)

-- exit, and get and put, which come back
abbrev pub ServicesMark : Type 0
ServicesMark =
    (n : ℕ) (g : Pages) (words : List ℕ) (mmu : MmuRegs) (x : World n Device) (k : ℕ) → RunsUser n g words mmu x k →
    (Calls words k 0 → MarksTheCall n mmu x 3) × (MayReturn n x → Calls words k 1 → MarksTheCall n mmu x 5)
    × (MayReturn n x → Calls words k 2 → MarksTheCall n mmu x 5)
