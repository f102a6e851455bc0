-- User code beside the flat machine, and what its turns come to.
use Rattle.std.specs.Prelude.{ℕ, ◌≡◌, ◌+◌, ◌*◌, ◌<◌, false, length, Option, Some}
use Rattle.v8_core.specs.Operation.{Operation}
use Rattle.v8_core.specs.Walked.{root_of}
use Rattle.v8_core.specs.Stop.TheVariants.{Exit}
use Rattle.v8_core.specs.MmuRegs.{MmuRegs}
use Rattle.v8_core.specs.declared.turn.DataAccess.{DataAccess}
use Rattle.v8_core.specs.declared.turn.Event.TheVariants.{Ran}
use Rattle.v8_core.specs.Accesses.{World}
use Rattle.v8_core.specs.Steps.{next, turn_of}
use Rattle.v8_map.specs.declared.TheConstants.{CODE_START, CONTEXT_TABLE}
use Rattle.v8_loaded.specs.Board.{Device, board}
use Rattle.sbx_flat.specs.Parts.{Parts}
use Rattle.sbx_flat.specs.Effects.{does}
use Rattle.sbx_flat.specs.Registers.{Fresh, IsFresh}
use Rattle.sbx_flat.specs.States.{Goes, State}
use Rattle.sbx_shows.specs.Marks.{OwnMarks}
use Rattle.sbx_shows.specs.Shows.{Fits, Shows}
use Rattle.sbx_shows.specs.Turns.{ReachesData}

-- The board shows the flat state, which stands at the code word i; r calls have windows.
pub record Stands (n : ℕ) (parts : Parts) (mmu : MmuRegs) (x : World n Device) (s : State) (r i : ℕ) : Type 0 where
  pub fits : Fits parts
  pub root : root_of mmu ≡ CONTEXT_TABLE
  pub shows : Shows n parts x s r
  pub straight : s.annulled ≡ false
  pub place : s.pc ≡ CODE_START + 4 * i
  pub within : i < length parts.words

-- One turn of the board, and a step of the flat machine by the same operation, for some fresh words; then so many calls
-- have windows.
pub record OneTurn (n : ℕ) (parts : Parts) (mmu : MmuRegs) (x : World n Device) (s : State) (op : Operation)
    (windows : ℕ) : Type 0 where
  pub fresh : Fresh
  pub is_fresh : IsFresh fresh
  pub next_state : State
  pub goes : does parts fresh op s ≡ Goes next_state
  pub word : ℕ
  pub access : Option DataAccess
  pub new : World n Device
  pub turn : next board n mmu x ≡ (turn_of n x.cpu Ran (Some word) access, new)
  pub reaches : ReachesData parts access
  pub shows : Shows n parts new next_state windows

-- Both machines have ended with this exit word.
pub record Over (n : ℕ) (parts : Parts) (x : World n Device) (s : State) (status : ℕ) : Type 0 where
  pub stopped : x.memory.device.stopped ≡ Some (Exit status)
  pub exit : s.exit ≡ Some status
  pub output : x.memory.device.output ≡ s.output
  pub marks : OwnMarks parts x.memory.ram
