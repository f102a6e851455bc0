-- What the handle of a run in pieces on the engine holds, and what a step does to it.
use Rattle.std.specs.Prelude.{ℕ, ◌≡◌, ◌≢◌, ◌+◌, ◌≤◌, ◌==◌, Bool, not, false, List, ◌++◌, drop, length, take}
use Rattle.std.specs.Prelude.{Some}
use Rattle.sbx_image.specs.Parts.{Parts}
use Rattle.sbx_flat.specs.Runs.{budget}
use Rattle.engine_runs.specs.Going.{IsAllOf, IsFrontOf}
use Rattle.engine_runs.specs.Halts.{PutsNext, TakesNext}
use Rattle.engine_runs.specs.Steps.{Goes, IsBegun, allowed, turns_of}
use Rattle.geyserpan.specs.declared.engine_slot.EngineRun.{EngineRun}
use Rattle.geyserpan.specs.declared.engine_slot.EngineSlot.{EngineSlot}
use Rattle.geyserpan.specs.declared.image_slot.ImageSlot.{ImageSlot}
use Rattle.geyserpan.specs.declared.image_slot.Kept.{Kept}
use Rattle.geyserpan.specs.declared.terms.Terms.{Terms}
use Rattle.geyserpan.specs.Denials.{Grants, HasWindows}
use Rattle.geyserpan.specs.Images.{parts_of}
use Rattle.geyserpan.specs.declared.run_slot.Done.{Done}
use Rattle.geyserpan.specs.declared.statuses.TheConstants.{ENDED, FULL, HANDLE, LOST, OUTPUT, PAUSED, WANTS}

-- A step of so many turns with a piece of the input, into a room. Of whatever image it was a run, which counts on n
-- windows and had read and written some bytes: it is one that has read those of the piece behind them, and written
-- those at the front of the room. What was written so far are the first bytes of the image's output on the bytes read
-- so far, with each status, and where the run has ended all of it; the turns are then those of its path on n windows.
-- What is written is taken off what is granted, and behind it the room is as it was. No more turns are made than were
-- allowed, with those that the steps before put by; a pause has made or put by all.
pub record GoesOn (old new : EngineRun) (asked : ℕ) (input : List ℕ) (last : Bool) (before after : List ℕ) (done : Done)
    (status : ℕ) : Type 0 where
  pub read : done.read ≤ length input
  pub written : done.written ≤ length after
  pub behind : drop done.written after ≡ drop done.written before
  pub goes : (parts : Parts) (n : ℕ) (so_far all : List ℕ) → Goes parts n so_far all old.paced
      → Goes parts n (so_far ++ take done.read input) (all ++ take done.written after) new.paced
  pub front : (parts : Parts) (n : ℕ) (so_far all : List ℕ) → Goes parts n so_far all old.paced
      → IsFrontOf parts (so_far ++ take done.read input) new.paced.met (all ++ take done.written after)
  pub whole : status ≡ ENDED → (parts : Parts) (n : ℕ) (so_far all : List ℕ) → Goes parts n so_far all old.paced
      → IsAllOf parts n (so_far ++ take done.read input) new.paced.met
      (all ++ take done.written after) done.exit new.paced.course.tally.traffic
  pub within : (parts : Parts) (n : ℕ) (so_far all : List ℕ) → Goes parts n so_far all old.paced →
      done.turns ≤ budget parts
  pub lost : status ≡ LOST → (parts : Parts) (n : ℕ) (so_far all : List ℕ) → Goes parts n so_far all old.paced → ⊥
  pub held : status ≢ HANDLE
  pub turns : done.turns ≡ turns_of new.paced.course
  pub most : allowed new.paced ≤ allowed old.paced + asked
  pub paused : status ≡ PAUSED → (parts : Parts) (n : ℕ) (so_far all : List ℕ) → Goes parts n so_far all old.paced
      → allowed new.paced ≡ allowed old.paced + asked
  pub exit : status ≢ ENDED → done.exit ≡ 0
  pub zero : done.zero ≡ 0
  pub granted : done.written + new.granted ≡ old.granted
  pub wants : status ≡ WANTS → (done.read ≡ length input) × (last ≡ false) × TakesNext new.paced.course
  pub full : status ≡ FULL → (done.written ≡ length after) × PutsNext new.paced.course
  pub output : status ≡ OUTPUT → (new.granted ≡ 0) × PutsNext new.paced.course
  pub met : last ≡ false → new.paced.met ≡ old.paced.met

-- whether a caller's word says that the piece is the last
abbrev pub is_last : ℕ → Bool
is_last word = not (word == 0)

-- The handle held this run, and holds it as it went on.
abbrev pub StepsSo : EngineRun → EngineSlot → ℕ → List ℕ → ℕ → List ℕ → List ℕ → Done → ℕ → Type 0
StepsSo run slot asked input last before after done status =
    (now : EngineRun) × (slot.run ≡ Some now) × GoesOn run now asked input (is_last last) before after done status

-- The handle holds a run of the image that counts on as many windows as the terms say, has read and written nothing,
-- has no turns put by, is granted as much output as the terms say, and wasn't told that its input has ended.
abbrev pub Begins : Parts → Terms → EngineSlot → Type 0
Begins parts terms slot =
    (run : EngineRun) × (slot.run ≡ Some run) × IsBegun parts terms.windows run.paced × (run.granted ≡ terms.output)

-- so of the image that this handle held, on its terms
abbrev pub BeginsOf : ImageSlot → EngineSlot → Type 0
BeginsOf image slot = (kept : Kept) × (image.kept ≡ Some kept) × Begins (parts_of kept) kept.terms slot

-- so on terms of the run's own, which grant what the image declares
abbrev pub BeginsOn : ImageSlot → Terms → EngineSlot → Type 0
BeginsOn image terms slot = (kept : Kept) × (image.kept ≡ Some kept) × Grants terms (parts_of kept) × HasWindows terms
    × Begins (parts_of kept) terms slot
