-- The second law: what a run of a safe image is on a board with any count of windows, moment by moment and at its end.
use Rattle.std.specs.Prelude.{ℕ, ◌≡◌, ◌^◌, ◌<◌, ◌≤◌, List, [], ◌∷◌, ◌++◌, None}
use Rattle.std.specs.List.{AllByRecursion}
use Rattle.v8_core.specs.MmuRegs.{MmuRegs}
use Rattle.v8_core.specs.Accesses.{World}
use Rattle.v8_loaded.specs.Board.{Device}
use Rattle.v8_loaded.specs.States.{IsState}
use Rattle.sbx_shows.specs.Counts.{Counts}
use Rattle.v8_board.specs.Runs.{state_after as board_after}
use Rattle.v8_board.specs.Seen.{State as BoardState, ending_of, turned}
use Rattle.v8_board.specs.Start.{IsStart}
use Rattle.sbx_flat.specs.Parts.{Parts}
use Rattle.v8_board.specs.Spelling.{IsTypedRegion}
use Rattle.sbx_flat.specs.Runs.{AreBytes, FlatRun, FlatSafe, Run, budget, place_of, weight}
use Rattle.sbx_flat.specs.States.{State}
use Rattle.sbx_flat.specs.Traffic.{traffic}
use Rattle.sbx_flat.specs.declared.path.Place.{Place}
use Rattle.sbx_shows.specs.Advances.{IsMoment, so_many}
use Rattle.sbx_shows.specs.Shows.{Fits}
use Rattle.sbx_shows.specs.Steps.{Over}
use Rattle.sbx_shows.specs.Turns.{IsOwnTurn}

-- the state of a board that has counted these
abbrev pub stands : (n : ℕ) → World n Device → MmuRegs → Counts → BoardState n
stands n w mmu c = record { world = w; mmu = mmu; counts = c }

-- the state with what the board's port had put out earlier, before its own output
abbrev pub with_earlier : List ℕ → State → State
with_earlier earlier s = record s { output = earlier ++ s.output }

-- The turn of this number, and the moment before it, beside the state of a flat run whose step it belongs to: on n
-- windows the way to that state takes so many turns or fewer, and with its own step more. The run goes from its first
-- state there, and on to its last. Outside the vectors and handlers that state is shown, and the turn is one that the
-- image may make there.
pub record IsTurnBeside (n : ℕ) (parts : Parts) (earlier : List ℕ) (path : List Place) (first last : State) (number : ℕ)
    (before : BoardState n) : Type 0 where
  pub way : List Place
  pub rest : List Place
  pub state : State
  pub path_is : path ≡ way ++ place_of parts state ∷ rest
  pub run : Run parts first way state
  pub goes_on : Run parts state (place_of parts state ∷ rest) last
  pub since : (traffic parts n way).turns ≤ number
  pub until : number < (traffic parts n (way ++ place_of parts state ∷ [])).turns
  pub moment : IsMoment n parts before.world (with_earlier earlier state)
  pub own : IsOwnTurn parts (with_earlier earlier state) (turned n before).0

-- The board came here from its start beside a flat run, in as many turns, overflows and underflows as the traffic of
-- its path has, and each turn beside the state of that run whose step it belongs to.
pub record Came (n : ℕ) (parts : Parts) (input earlier : List ℕ) (start : BoardState n) (x : World n Device) (s : State)
    (r : ℕ) : Type 0 where
  pub path : List Place
  pub run : FlatRun parts input path s
  pub turns : ℕ
  pub overflows : ℕ
  pub underflows : ℕ
  pub traffic_is : traffic parts n path ≡ so_many r overflows underflows turns
  pub few : (overflows ≤ turns) × (underflows ≤ turns) × (turns ≤ weight parts path)
  pub board_stands : board_after n turns start ≡
      stands n x start.mmu (record { turns = turns; overflows = overflows; underflows = underflows })
  pub going : (j : ℕ) → j < turns → ending_of n (board_after n j start).world ≡ None
  pub each : (j : ℕ) → j < turns → IsTurnBeside n parts earlier path run.0 s j (board_after n j start)

-- Both have ended with the same exit word; what the board put out after its earlier output is the flat run's.
pub record Finishes (n : ℕ) (parts : Parts) (input earlier : List ℕ) (start : BoardState n) : Type 0 where
  pub last : World n Device
  pub state : State
  pub windows : ℕ
  pub status : ℕ
  pub came : Came n parts input earlier start last state windows
  pub over : Over n parts last (with_earlier earlier state) status

-- Any board before it is loaded: its registers, Y and RAM hold any words, and its port has this input.
pub record IsAnyBoard (n : ℕ) (input : List ℕ) (made : BoardState n) : Type 0 where
  pub state : IsState n made.mmu made.world
  pub y : made.world.cpu.control.y < 2 ^ 32
  pub input_is : made.world.memory.device.input ≡ input

-- the limits of every image
pub record IsImage (parts : Parts) : Type 0 where
  pub fits : Fits parts
  pub stack : 1 ≤ parts.stack_pages
  pub bytes : AllByRecursion IsTypedRegion parts.regions
  pub budget_fits : budget parts < 2 ^ 64

abbrev pub RunsToItsEnd : Type 0
RunsToItsEnd =
    (n : ℕ) (parts : Parts) (input : List ℕ) (made start : BoardState n) →
    IsImage parts → FlatSafe parts → AreBytes input → IsAnyBoard n input made → IsStart n parts made start →
    Finishes n parts input made.world.memory.device.output start
