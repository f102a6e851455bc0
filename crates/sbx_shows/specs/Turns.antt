-- What a turn of a run may do beside a state of the flat machine: which traps it takes, and what it touches.
use Rattle.std.specs.Prelude.{ℕ, ◌≡◌, ◌⊎◌, ◌+◌, ◌-◌, ◌/◌, ◌<◌, ◌≤◌, ◌==◌, ◌||◌, ◌&&◌, nat_le, Bool, true, false, Option}
use Rattle.std.specs.Prelude.{Some, None}
use Rattle.v8_core.specs.Operation.{Operation}
use Rattle.v8_core.specs.Operation.TheVariants.{Restore, Save}
use Rattle.v8_core.specs.Transfers.{bytes_in}
use Rattle.v8_core.specs.declared.turn.DataAccess.{DataAccess}
use Rattle.v8_core.specs.declared.turn.Event.{Event}
use Rattle.v8_core.specs.declared.turn.Event.TheVariants.{Ran, Annulled, Trapped, ErrorMode, Stopped}
use Rattle.v8_core.specs.declared.turn.Turn.{Turn}
use Rattle.v8_map.specs.declared.TheConstants.{PAGE, TRAP_TABLE, HANDLERS}
use Rattle.v8_loaded.specs.Turns.{ReachesDevice}
use Rattle.sbx_flat.specs.Parts.{Parts}
use Rattle.sbx_flat.specs.Effects.{declares}
use Rattle.sbx_flat.specs.Registers.{Registers}
use Rattle.sbx_flat.specs.States.{State}
use Rattle.sbx_flat.specs.OwnPages.{is_own_code_page, is_own_data_page}
use Rattle.sbx_flat.specs.Turns.{asked, word_at}
use Rattle.sbx_flat.specs.Calls.{base, depth}

-- window overflow, window underflow, and the calls of the services that the image declares
abbrev pub is_own_trap : Parts → ℕ → Bool
is_own_trap parts t = (t == 0x05) || (t == 0x06) || (nat_le 0x80 t && declares parts.services (t - 0x80))

-- no other trap, and no error mode
abbrev pub IsOwnEvent : Parts → Event → Type 0
IsOwnEvent parts Ran = Unit
IsOwnEvent parts Annulled = Unit
IsOwnEvent parts (Trapped t) = is_own_trap parts t ≡ true
IsOwnEvent parts (ErrorMode t) = ⊥
IsOwnEvent parts (Stopped stop) = Unit

-- the image's data and its stack, and where it stores what of them may be written
abbrev pub ReachesData : Parts → Option DataAccess → Type 0
ReachesData parts None = Unit
ReachesData parts (Some access) = is_own_data_page parts access.store (access.va / PAGE) ≡ true

-- the 64 bytes of an open call
abbrev pub ReachesCall : Registers → Option DataAccess → Type 0
ReachesCall file None = Unit
ReachesCall file (Some access) = (k : ℕ) × (k < depth file) × (base file k ≤ access.va)
    × (access.va + bytes_in access.size ≤ base file k + 64)

-- the instructions that may take a window trap
abbrev pub moves_window : Operation → Bool
moves_window (Save f) = true
moves_window (Restore f) = true
moves_window _ = false

-- the flat machine stands at one of them
abbrev pub StandsAtMove : Parts → State → Type 0
StandsAtMove parts s = (word : ℕ) × (word_at parts.words s.pc ≡ Some word) × (moves_window (asked word) ≡ true)

-- A user turn stands in the image's code and reaches its data and its stack. A supervisor's stands in the pages of the
-- trap table and the window handlers, and reaches the device or, at a SAVE or a RESTORE alone, the 64 bytes of an open
-- call.
abbrev pub StaysBeside : Parts → State → Bool → ℕ → Option DataAccess → Type 0
StaysBeside parts s true pc access = (is_own_code_page parts (pc / PAGE) ≡ true) × ReachesData parts access
StaysBeside parts s false pc access =
    (((pc / PAGE == TRAP_TABLE / PAGE) || (pc / PAGE == HANDLERS / PAGE)) ≡ true)
    × (ReachesDevice access ⊎ (StandsAtMove parts s × ReachesCall s.registers access))

-- a turn that fetched a word; an annulled turn fetches and reaches nothing
abbrev pub StaysOnWord : Parts → State → Option ℕ → Bool → ℕ → Option DataAccess → Type 0
StaysOnWord parts s None user pc access = access ≡ None
StaysOnWord parts s (Some word) user pc access = StaysBeside parts s user pc access

-- It is annulled only where the flat machine's instruction is.
pub record IsOwnTurn (parts : Parts) (s : State) (turn : Turn) : Type 0 where
  pub trap : IsOwnEvent parts turn.event
  pub annulled : turn.event ≡ Annulled → s.annulled ≡ true
  pub within : StaysOnWord parts s turn.word turn.user turn.pc turn.access
