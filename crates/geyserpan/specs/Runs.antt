-- What the handle of a run in pieces holds, and what a step does to it.
use Rattle.std.specs.Prelude.{ℕ, ◌≡◌, ◌≢◌, ◌+◌, ◌≤◌, ◌⊎◌, Bool, false, List, [], ◌++◌, drop, length, take, Option, Some}
use Rattle.std.specs.Prelude.{None}
use Rattle.sbx_image.specs.Parts.{Parts}
use Rattle.sbx_flat.specs.Runs.{budget}
use Rattle.sbx_session.specs.Going.{Goes, IsAllOf, IsFrontOf}
use Rattle.sbx_session.specs.Steps.{AsksByte, HasByte}
use Rattle.geyserpan.specs.declared.image_slot.ImageSlot.{ImageSlot}
use Rattle.geyserpan.specs.declared.image_slot.Kept.{Kept}
use Rattle.geyserpan.specs.declared.terms.Terms.{Terms}
use Rattle.geyserpan.specs.Denials.{Grants}
use Rattle.geyserpan.specs.Images.{parts_of}
use Rattle.geyserpan.specs.declared.run_slot.Done.{Done}
use Rattle.geyserpan.specs.declared.run_slot.Going.{Going}
use Rattle.geyserpan.specs.declared.run_slot.RunSlot.{RunSlot}
use Rattle.geyserpan.specs.declared.statuses.TheConstants.{ENDED, FULL, HANDLE, LOST, OUTPUT, PAUSED, WANTS}

-- The handle holds a run of this image, which has read these bytes so far, and written those.
abbrev pub Runs : RunSlot → Parts → List ℕ → List ℕ → Type 0
Runs slot parts read written = (going : Going) × (slot.going ≡ Some going) × Goes 8 parts read written going.session

abbrev pub met_in : Option Going → Bool
met_in (Some going) = going.session.met
met_in None = false

-- whether the run knows the end of its input
abbrev pub met_of : RunSlot → Bool
met_of slot = met_in slot.going

abbrev pub granted_in : Option Going → ℕ
granted_in (Some going) = going.granted
granted_in None = 0

-- how many bytes of output the run is still granted
abbrev pub granted_of : RunSlot → ℕ
granted_of slot = granted_in slot.going

abbrev pub turns_in : Option Going → ℕ
turns_in (Some going) = going.session.board.state.counts.turns
turns_in None = 0

-- how many turns the board has made since the run began
abbrev pub turns_of : RunSlot → ℕ
turns_of slot = turns_in slot.going

abbrev pub asks_in : Option Going → Type 0
asks_in (Some going) = AsksByte 8 going.session.board
asks_in None = ⊥

-- the run's board asks for a byte of input
abbrev pub IsAsking : RunSlot → Type 0
IsAsking slot = asks_in slot.going

abbrev pub has_in : Option Going → Type 0
has_in (Some going) = HasByte 8 going.session.board
has_in None = ⊥

-- the run holds a byte that it has put out, and that isn't written yet
abbrev pub IsHolding : RunSlot → Type 0
IsHolding slot = has_in slot.going

-- a status that vouches that the handle still holds a run of its image
abbrev pub IsVouched : ℕ → Type 0
IsVouched status = (status ≢ LOST) × (status ≢ HANDLE)

-- A step of so many turns with a piece of the input, into a room. Of whatever image the handle held a run, which had
-- read and written some bytes: it now holds one that has read those of the piece behind them, and written those at the
-- front of the room. What was written so far are the first bytes of the image's output on the bytes read so far, and
-- where the run has ended all of it; the turns are then those of its path on 8 windows. What is written is taken off
-- what is granted. No more turns are made than were allowed; a pause has made all.
pub record StepsSo (old new : RunSlot) (asked : ℕ) (input : List ℕ) (last : ℕ) (before after : List ℕ) (done : Done)
    (status : ℕ) : Type 0 where
  pub read : status ≢ HANDLE → done.read ≤ length input
  pub written : status ≢ HANDLE → done.written ≤ length after
  pub behind : status ≢ HANDLE → drop done.written after ≡ drop done.written before
  pub goes : IsVouched status → (parts : Parts) (so_far all : List ℕ) → Runs old parts so_far all
      → Runs new parts (so_far ++ take done.read input) (all ++ take done.written after)
  pub front : status ≢ HANDLE → (parts : Parts) (so_far all : List ℕ) → Runs old parts so_far all
      → IsFrontOf parts (so_far ++ take done.read input) (met_of new) (all ++ take done.written after)
  pub whole : status ≡ ENDED → (parts : Parts) (so_far all : List ℕ) → Runs old parts so_far all
      → IsAllOf parts 8 (so_far ++ take done.read input) (met_of new) (all ++ take done.written after) done.exit done.turns
  pub within : status ≢ HANDLE → (parts : Parts) (so_far all : List ℕ) → Runs old parts so_far all
      → done.turns ≤ budget parts
  pub empty : status ≡ HANDLE → (old.going ≡ None) × (after ≡ before)
  pub turns : status ≢ HANDLE → done.turns ≡ turns_of new
  pub most : status ≢ HANDLE → turns_of new ≤ turns_of old + asked
  pub paused : status ≡ PAUSED → (parts : Parts) (so_far all : List ℕ) → Runs old parts so_far all
      → turns_of new ≡ turns_of old + asked
  pub exit : status ≢ HANDLE → status ≢ ENDED → done.exit ≡ 0
  pub zero : status ≢ HANDLE → done.zero ≡ 0
  pub granted : status ≢ HANDLE → done.written + granted_of new ≡ granted_of old
  pub wants : status ≡ WANTS → (done.read ≡ length input) × (last ≡ 0) × IsAsking new
  pub full : status ≡ FULL → (done.written ≡ length after) × IsHolding new
  pub output : status ≡ OUTPUT → (granted_of new ≡ 0) × IsHolding new

-- the handle holds a run of the image, which has read and written nothing, is granted as much output as the terms say,
-- and wasn't told that its input has ended
abbrev pub Begins : Parts → Terms → RunSlot → Type 0
Begins parts terms slot = Runs slot parts [] [] × (granted_of slot ≡ terms.output) × (met_of slot ≡ false)

-- so of the image that this handle held, on its terms
abbrev pub BeginsOf : ImageSlot → RunSlot → Type 0
BeginsOf image slot = (kept : Kept) × (image.kept ≡ Some kept) × Begins (parts_of kept) kept.terms slot

-- so on terms of the run's own, which grant what the image declares
abbrev pub BeginsOn : ImageSlot → Terms → RunSlot → Type 0
BeginsOn image terms slot = (kept : Kept) × (image.kept ≡ Some kept) × Grants terms (parts_of kept)
    × (terms.windows ≡ 8) × Begins (parts_of kept) terms slot

-- this handle holds an image that was opened for another count of windows than 8
abbrev pub IsForOthers : ImageSlot → Type 0
IsForOthers image = (kept : Kept) × (image.kept ≡ Some kept) × (kept.terms.windows ≢ 8)

-- there is no image, or no board
abbrev pub IsLacking : ImageSlot → RunSlot → Type 0
IsLacking image slot = (image.kept ≡ None) ⊎ (slot.going ≡ None)
