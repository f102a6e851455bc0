-- How often a run calls the port: in each turn at most once, by the access that the turn tells of, where the device has
-- to ask the port.
use Rattle.std.specs.Prelude.{ℕ, zero, suc, ◌+◌, Result, Ok, Err}
use Rattle.v8_core.specs.Answers.{Grows}
use Rattle.v8_core.specs.Calls.{calls_by}
use Rattle.v8_core.specs.PortFault.{PortFault}
use Rattle.v8_contained.specs.Board.{board}
use Rattle.v8_board.specs.Runs.{IsCutShort, IsRun, state_after}
use Rattle.v8_board.specs.Seen.{State, turned}

-- the most calls in the turn that a board makes next
abbrev pub next_calls : (n : ℕ) → State n → ℕ
next_calls n s = calls_by board s.world.memory.device (turned n s).0.access

-- the most calls in so many turns
abbrev pub calls_in : (n : ℕ) → ℕ → State n → ℕ
calls_in n zero s = 0
calls_in n (suc k) s = calls_in n k s + next_calls n (state_after n k s)

-- The run, and its port's count of calls before and after: as many calls as its turns may make, or fewer; and where the
-- port failed, one more, in the turn that was not made.
abbrev pub Asks : {T : Type 0} → (n : ℕ) → ℕ → State n → State n → ℕ → ℕ → Result T PortFault → Type 0
Asks n limit start end before now (Ok told) = (run : IsRun n limit start end)
    × Grows (calls_in n run.turns.count start) before now
Asks n limit start end before now (Err fault) = (cut : IsCutShort n limit start end)
    × Grows (calls_in n cut.turns.count start + 1) before now
