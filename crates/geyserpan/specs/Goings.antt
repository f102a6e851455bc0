-- What a run in pieces does within its handle.
use Rattle.std.specs.Prelude.{ℕ, ◌≡◌, ◌≢◌, ◌+◌, ◌≤◌, Bool, false, List, ◌++◌, drop, length, take}
use Rattle.sbx_image.specs.Parts.{Parts}
use Rattle.sbx_flat.specs.Runs.{budget}
use Rattle.sbx_session.specs.Going.{Goes, IsAllOf, IsFrontOf}
use Rattle.sbx_session.specs.Steps.{AsksByte, HasByte, turns_of}
use Rattle.geyserpan.specs.declared.run_slot.Done.{Done}
use Rattle.geyserpan.specs.declared.run_slot.Going.{Going}
use Rattle.geyserpan.specs.declared.statuses.TheConstants.{ENDED, FULL, HANDLE, LOST, OUTPUT, PAUSED, WANTS}

-- a step, as `StepsSo` has it of the handle
pub record IsGoingOn (old new : Going) (asked : ℕ) (input : List ℕ) (last : Bool) (before after : List ℕ) (done : Done)
    (status : ℕ) : Type 0 where
  pub read : done.read ≤ length input
  pub written : done.written ≤ length after
  pub behind : drop done.written after ≡ drop done.written before
  pub goes : status ≢ LOST → (parts : Parts) (so_far all : List ℕ) → Goes 8 parts so_far all old.session
      → Goes 8 parts (so_far ++ take done.read input) (all ++ take done.written after) new.session
  pub front : (parts : Parts) (so_far all : List ℕ) → Goes 8 parts so_far all old.session
      → IsFrontOf parts (so_far ++ take done.read input) new.session.met (all ++ take done.written after)
  pub whole : status ≡ ENDED → (parts : Parts) (so_far all : List ℕ) → Goes 8 parts so_far all old.session
      → IsAllOf parts 8 (so_far ++ take done.read input) new.session.met (all ++ take done.written after) done.exit
      done.turns
  pub within : (parts : Parts) (so_far all : List ℕ) → Goes 8 parts so_far all old.session → done.turns ≤ budget parts
  pub held : status ≢ HANDLE
  pub turns : done.turns ≡ turns_of new.session
  pub most : turns_of new.session ≤ turns_of old.session + asked
  pub paused : status ≡ PAUSED → (parts : Parts) (so_far all : List ℕ) → Goes 8 parts so_far all old.session
      → turns_of new.session ≡ turns_of old.session + asked
  pub exit : status ≢ ENDED → done.exit ≡ 0
  pub zero : done.zero ≡ 0
  pub granted : done.written + new.granted ≡ old.granted
  pub wants : status ≡ WANTS → (done.read ≡ length input) × (last ≡ false) × AsksByte 8 new.session.board
  pub full : status ≡ FULL → (done.written ≡ length after) × HasByte 8 new.session.board
  pub output : status ≡ OUTPUT → (new.granted ≡ 0) × HasByte 8 new.session.board
