-- The turns of a run, told one after the other.
use Rattle.std.specs.Prelude.{ℕ, zero, suc, ◌≡◌, ◌≤◌, ◌⊎◌, List, [], ◌++◌, codes, Option, Some, None, Result, Ok, Err}
use Rattle.std.specs.Fmt.{decimal}
use Rattle.sbx_image.specs.Function.{Function}
use Rattle.sbx_image.specs.Parts.{Parts}
use Rattle.v8_core.specs.declared.turn.Turn.{Turn}
use Rattle.v8_board.specs.declared.outcome.Ending.{Ending}
use Rattle.v8_board.specs.Seen.{State, ending_of, turned}
use Rattle.v8_board.specs.Runs.{IsRun, Turns, state_after}
use Rattle.std.specs.Io.KnownBytes.{Appends}
use Rattle.sbx_put.specs.Fronts.{Begins, Wrote, WroteSome}
use Rattle.sbx_raw.specs.declared.fault.RunFault.{RunFault}
use Rattle.sbx_raw.specs.declared.fault.RunFault.TheVariants.{Memory, Reader, Writer}
use Rattle.sbx_raw.specs.Outputs.{Alike}
use Rattle.sbx_raw.specs.Runs.{IsBegun}
use Rattle.inspect_run.specs.Heads.{head_text}

-- a text that tells a turn: it begins with its head
abbrev pub TellsTurn : List Function → ℕ → Turn → List ℕ → Type 0
TellsTurn functions number turn text = (rest : List ℕ) × (text ≡ head_text functions number turn ++ rest)

-- a text that tells the first turns from a state, so many, which are numbered from 1
unfoldable pub TellsTurns : (n : ℕ) → List Function → State n → ℕ → List ℕ → Type 0
TellsTurns n functions s zero text = text ≡ []
TellsTurns n functions s (suc k) text = (before : List ℕ) × (last : List ℕ) × TellsTurns n functions s k before
    × TellsTurn functions (suc k) (turned n (state_after n k s)).0 last × (text ≡ before ++ last)

-- the line behind the turns of a run that the limit cut short; none of one that has ended
abbrev pub last_text : ℕ → Option Ending → List ℕ
last_text limit None = codes "limit: the run would go on behind turn " ++ (decimal limit ++ codes "\n")
last_text limit (Some ending) = []

-- a text that tells each turn of a board's run from a state, up to the limit, and whether that cut it short
pub record TellsRun (n : ℕ) (functions : List Function) (limit : ℕ) (start : State n) (text : List ℕ) : Type 0 where
  pub end : State n
  pub run : IsRun n limit start end
  pub turns : List ℕ
  pub told : TellsTurns n functions start run.turns.count turns
  pub whole : text ≡ turns ++ last_text limit (ending_of n end.world)

-- such a text of the run from the start that loading makes of a new board
pub record IsWatched (n : ℕ) (p : Parts) (input : List ℕ) (limit : ℕ) (text : List ℕ) : Type 0 where
  pub start : State n
  pub begun : IsBegun n p input start
  pub told : TellsRun n p.functions limit start text

-- these bytes are the first of a text that tells each turn of such a run
abbrev pub BeginsWatch : (n : ℕ) → Parts → List ℕ → ℕ → List ℕ → Type 0
BeginsWatch n p input limit front = (text : List ℕ) × IsWatched n p input limit text × Begins front text

-- what was written where there is a fault: such bytes, or none where there was no memory to begin
abbrev pub Leaves : (n : ℕ) → Parts → List ℕ → ℕ → RunFault → List ℕ → Type 0
Leaves n p input limit (Memory want) bytes = (bytes ≡ []) ⊎ BeginsWatch n p input limit bytes
Leaves n p input limit Reader bytes = ⊥
Leaves n p input limit Writer bytes = BeginsWatch n p input limit bytes

-- what was written of the turns of an image's run: a text that tells each of them, or at a fault its first bytes
abbrev pub Watched : (n : ℕ) → Parts → List ℕ → ℕ → Option (List ℕ) → Option (List ℕ) → Result (Unit {0}) RunFault →
    Type 0
Watched n p input limit old new (Ok done) = Wrote old new (IsWatched n p input limit)
Watched n p input limit old new (Err fault) = Wrote old new (Leaves n p input limit fault)

-- The board made a turn from one state to the other, which lacks what the device has put out, and a text that tells it
-- was written.
pub record WatchedTurn (n : ℕ) (functions : List Function) (number : ℕ) (old new : State n)
    (before now : Option (List ℕ)) : Type 0 where
  pub turn : Turn
  pub next : State n
  pub text : List ℕ
  pub made : turned n old ≡ (turn, next)
  pub alike : Alike n new next
  pub told : TellsTurn functions number turn text
  pub written : Appends before now text

-- The board ran from one state to the other, which lacks what the device has put out, and a text that tells its turns
-- was written.
pub record WatchedRun (n : ℕ) (functions : List Function) (limit : ℕ) (old new : State n)
    (before now : Option (List ℕ)) : Type 0 where
  pub end : State n
  pub text : List ℕ
  pub run : IsRun n limit old end
  pub alike : Alike n new end
  pub told : TellsTurns n functions old run.turns.count text
  pub written : Appends before now text

-- the first bytes of a text that tells the next turn were written
abbrev pub WatchedSome : (n : ℕ) → List Function → ℕ → State n → Option (List ℕ) → Option (List ℕ) → Type 0
WatchedSome n functions number old before now = (text : List ℕ) × TellsTurn functions number (turned n old).0 text
    × WroteSome before now text

-- the first bytes of a text that tells some turns of a run were written
pub record WatchedPart (n : ℕ) (functions : List Function) (limit : ℕ) (old : State n)
    (before now : Option (List ℕ)) : Type 0 where
  pub reached : State n
  pub turns : Turns n old reached
  pub text : List ℕ
  pub within : turns.count ≤ limit
  pub told : TellsTurns n functions old turns.count text
  pub part : WroteSome before now text

-- the first bytes of a text that tells the whole run were written
abbrev pub BeginsRun : (n : ℕ) → List Function → ℕ → State n → Option (List ℕ) → Option (List ℕ) → Type 0
BeginsRun n functions limit old before now = (text : List ℕ) × TellsRun n functions limit old text
    × WroteSome before now text
