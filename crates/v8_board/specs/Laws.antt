-- Laws of runs: calls that follow one another make one run of the board; and of what is loaded.
use Rattle.std.specs.Prelude.{ℕ, ◌≡◌, ◌+◌, ◌≤◌, None}
use Rattle.sbx_image.specs.Parts.{Parts}
use Rattle.v8_board.specs.Calls.{calls_in}
use Rattle.v8_board.specs.Contains.{Contains, StaysContained}
use Rattle.v8_board.specs.Seen.{State, ending_of, turned}
use Rattle.v8_board.specs.Runs.{Turns, IsRun, IsCutShort}

-- turns, and turns from where they lead to, are turns
abbrev pub TurnsJoin : Type 0
TurnsJoin = (n : ℕ) (s m e : State n) → Turns n s m → Turns n m e → Turns n s e

-- a run, and a run from where it stops, are one run, whose limit is the sum of theirs
abbrev pub RunsJoin : Type 0
RunsJoin = (n a b : ℕ) (s m e : State n) → IsRun n a s m → IsRun n b m e → IsRun n (a + b) s e

-- a turn of a machine that has not ended is a run of at most one turn
abbrev pub StepRuns : Type 0
StepRuns = (n : ℕ) (s : State n) → ending_of n s.world ≡ None → IsRun n 1 s (turned n s).1

-- a run that was cut short, and a run from there, are one run, whose limit is the turns made and the second one's limit
abbrev pub CutRunsJoin : Type 0
CutRunsJoin = (n a b : ℕ) (s m e : State n) → (c : IsCutShort n a s m) → IsRun n b m e → IsRun n (c.turns.count + b) s e

-- two runs from one state with one limit end in one state
abbrev pub RunsAgree : Type 0
RunsAgree = (n limit : ℕ) (s e f : State n) → IsRun n limit s e → IsRun n limit s f → e ≡ f

-- so many turns call the port at most as often
abbrev pub AsksOnceATurn : Type 0
AsksOnceATurn = (n k : ℕ) (s : State n) → calls_in n k s ≤ k

-- where what was loaded is contained, every turn from there on is one that containment allows
abbrev pub TurnsContained : Type 0
TurnsContained = (n : ℕ) (p : Parts) (s : State n) → Contains n p s → StaysContained n p s
