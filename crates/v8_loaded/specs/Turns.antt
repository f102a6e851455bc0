-- Machine turns of a board in a row, and what each of them touches.
use Rattle.std.specs.Prelude.{ℕ, zero, suc, ◌≡◌, ◌⊎◌, ◌+◌, ◌/◌, ◌%◌, ◌<◌, ◌≤◌, Bool, true, false, List, length}
use Rattle.std.specs.Prelude.{slice_get, Option, Some, None}
use Rattle.v8_core.specs.Size.TheVariants.{Double}
use Rattle.v8_core.specs.Meaning.{Meaning}
use Rattle.v8_core.specs.MmuRegs.{MmuRegs}
use Rattle.v8_core.specs.declared.turn.DataAccess.{DataAccess}
use Rattle.v8_core.specs.declared.turn.Event.{Event}
use Rattle.v8_core.specs.declared.turn.Event.TheVariants.{Ran}
use Rattle.v8_core.specs.declared.turn.Turn.{Turn}
use Rattle.v8_core.specs.Accesses.{World}
use Rattle.v8_core.specs.Steps.{next}
pub use Rattle.v8_core.specs.Steps.{world_after}
use Rattle.v8_map.specs.declared.TheConstants.{PAGE, CODE_START, TRAP_TABLE, HANDLERS, DEVICE}
use Rattle.v8_layout.specs.Layout.{Pages}
use Rattle.v8_memory.specs.Board.{Device, board}

-- what is told of the turn after so many turns
abbrev pub turn_at : {D : Type 0} → Meaning D → (n : ℕ) → MmuRegs → ℕ → World n D → Turn
turn_at m n mmu k old = (next m n mmu (world_after m n mmu k old)).0

-- ---- what a turn touches

-- the device's page and no other
abbrev pub ReachesDevice : Option DataAccess → Type 0
ReachesDevice None = Unit
ReachesDevice (Some access) = access.va / PAGE ≡ DEVICE / PAGE

-- a double word in so many bytes from an address on, which is stored or loaded
abbrev pub ReachesArea : ℕ → ℕ → Bool → Option DataAccess → Type 0
ReachesArea from count store None = Unit
ReachesArea from count store (Some access) = (from ≤ access.va) × (access.va < from + count) × (access.va % 8 ≡ 0)
    × (access.size ≡ Double) × (access.store ≡ store)

-- What a turn touches, by its mode, place and access: user code is fetched from the code's pages, and reaches no data;
-- a vector is fetched from the page of the trap table, and reaches the device alone.
abbrev pub Touches : Pages → Bool → ℕ → Option DataAccess → Type 0
Touches g true pc access = (CODE_START / PAGE ≤ pc / PAGE) × (pc / PAGE < CODE_START / PAGE + g.code_count)
    × (access ≡ None)
Touches g false pc access = (pc / PAGE ≡ TRAP_TABLE / PAGE) × ReachesDevice access

-- A turn of a window trap's vector or of its handler. It ran in supervisor mode, in the page of the trap table or of
-- the handlers, and it reaches the save area alone: so many bytes from an address on, which the handler either stores
-- or loads.
pub record IsHandlers (from count : ℕ) (store : Bool) (turn : Turn) : Type 0 where
  pub event : turn.event ≡ Ran
  pub system : turn.user ≡ false
  pub page : (turn.pc / PAGE ≡ TRAP_TABLE / PAGE) ⊎ (turn.pc / PAGE ≡ HANDLERS / PAGE)
  pub access : ReachesArea from count store turn.access

-- ---- turns of a board that had not ended

-- one turn, with this event
pub record TurnsTo (n : ℕ) (g : Pages) (mmu : MmuRegs) (old : World n Device) (event : Event)
    (new : World n Device) : Type 0 where
  pub running : old.memory.device.stopped ≡ None
  pub sane : old.cpu.control.error ≡ None
  pub tells : (next board n mmu old).0.event ≡ event
  pub touches : Touches g (next board n mmu old).0.user (next board n mmu old).0.pc (next board n mmu old).0.access
  pub is : (next board n mmu old).1 ≡ new

-- turns with these events, one after the other
pub record Leads (n : ℕ) (g : Pages) (mmu : MmuRegs) (old : World n Device) (events : List Event)
    (new : World n Device) : Type 0 where
  pub is : world_after board n mmu (length events) old ≡ new
  pub turns : (k : ℕ) (event : Event) → slice_get events k ≡ Some event →
      TurnsTo n g mmu (world_after board n mmu k old) event (world_after board n mmu (suc k) old)
