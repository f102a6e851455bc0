-- What a step of a run in pieces does.
use Rattle.std.specs.Prelude.{ℕ, ◌≡◌, ◌≢◌, ◌+◌, ◌<◌, ◌≤◌, Bool, false, List, [], ◌++◌, drop, length, take, Some}
use Rattle.sbx_image.specs.Parts.{Parts}
use Rattle.sbx_flat.specs.Runs.{budget}
use Rattle.sbx_port.specs.Ports.{unknown}
use Rattle.v8_board.specs.Seen.{Seen, State, ending_of}
use Rattle.v8_board.specs.declared.outcome.Ending.TheVariants.{Exit}
use Rattle.sbx_session.specs.Going.{Goes, IsAllOf, IsFrontOf}
use Rattle.sbx_session.specs.declared.session.Session.{Session}
use Rattle.sbx_session.specs.declared.session.Stand.{Stand}
use Rattle.sbx_session.specs.declared.session.Stand.TheVariants.{Ended, Wants, Full, Paused, Lost}
use Rattle.sbx_session.specs.declared.session.Step.{Step}

-- the turns that the board has made since the run began
abbrev pub turns_of : {n : ℕ} → Session n → ℕ
turns_of session = session.board.state.counts.turns

-- The board asks for a byte of input: since bytes were carried its port has failed, knows of no byte of input, and holds
-- none of output, so that it isn't for want of room that it has failed.
abbrev pub AsksByte : (n : ℕ) → Seen n → Type 0
AsksByte n board = (0 < board.failed) × (board.state.world.memory.device.input ≡ unknown)
    × (board.state.world.memory.device.output ≡ [])

-- the board holds a byte that the program has put out, and that isn't written yet
abbrev pub HasByte : (n : ℕ) → Seen n → Type 0
HasByte n board = board.state.world.memory.device.output ≢ []

-- the machine has exited with this word, or otherwise
abbrev pub EndsAs : (n : ℕ) → State n → Stand → Type 0
EndsAs n now (Ended word) = ending_of n now.world ≡ Some (Exit word)
EndsAs n now Lost = Unit {0}
EndsAs n now Wants = ⊥
EndsAs n now Full = ⊥
EndsAs n now Paused = ⊥

-- whether it is vouched for that the session is still a run of its image
abbrev pub IsVouched : Stand → Type 0
IsVouched Lost = ⊥
IsVouched (Ended word) = Unit {0}
IsVouched Wants = Unit {0}
IsVouched Full = Unit {0}
IsVouched Paused = Unit {0}

-- why it ended there: the whole piece is read, more has to come, and the board asks for a byte; the room is full, and
-- there is a byte to put out
abbrev pub StandsSo : (n : ℕ) → Stand → Session n → List ℕ → Bool → List ℕ → Step → Type 0
StandsSo n Wants new input last room step = (step.read ≡ length input) × (last ≡ false) × AsksByte n new.board
StandsSo n Full new input last room step = (step.written ≡ length room) × HasByte n new.board
StandsSo n (Ended word) new input last room step = Unit {0}
StandsSo n Paused new input last room step = Unit {0}
StandsSo n Lost new input last room step = Unit {0}

-- A step of so many turns with a piece of the input, into a room: of whatever image the session was a run, which had
-- read and written some bytes, it is one that has read those of the piece behind them, and written those at the front
-- of the room. What was written so far are the first bytes of the image's output on the bytes read so far, however the
-- step ended, and where the run has ended all of it; the turns are then those of its path. Behind what was written the
-- room is as it was. That its input has ended it is told behind the last piece alone. It makes no more turns than it
-- may, and pauses only where all of them are made.
pub record IsStep (n : ℕ) (old new : Session n) (most : ℕ) (input : List ℕ) (last : Bool) (before after : List ℕ)
    (step : Step) : Type 0 where
  pub read : step.read ≤ length input
  pub written : step.written ≤ length after
  pub behind : drop step.written after ≡ drop step.written before
  pub goes : IsVouched step.stand → (parts : Parts) (so_far all : List ℕ) → Goes n parts so_far all old
      → Goes n parts (so_far ++ take step.read input) (all ++ take step.written after) new
  pub front : (parts : Parts) (so_far all : List ℕ) → Goes n parts so_far all old
      → IsFrontOf parts (so_far ++ take step.read input) new.met (all ++ take step.written after)
  pub whole : (word : ℕ) → step.stand ≡ Ended word → (parts : Parts) (so_far all : List ℕ) → Goes n parts so_far all old
      → IsAllOf parts n (so_far ++ take step.read input) new.met (all ++ take step.written after) word (turns_of new)
  pub within : (parts : Parts) (so_far all : List ℕ) → Goes n parts so_far all old → turns_of new ≤ budget parts
  pub stands : StandsSo n step.stand new input last after step
  pub met : last ≡ false → new.met ≡ old.met
  pub turns : turns_of new ≤ turns_of old + most
  pub paused : step.stand ≡ Paused → (parts : Parts) (so_far all : List ℕ) → Goes n parts so_far all old
      → turns_of new ≡ turns_of old + most
