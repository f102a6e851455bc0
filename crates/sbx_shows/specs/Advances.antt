-- A step of the flat machine as turns of the board: what they count, what they may do, and what is shown at each
-- moment.
use Rattle.std.specs.Prelude.{ℕ, zero, suc, ◌≡◌, ◌⊎◌, ◌+◌, ◌-◌, ◌^◌, ◌<◌, ◌≤◌, true, None}
use Rattle.v8_core.specs.MmuRegs.{MmuRegs}
use Rattle.v8_core.specs.Accesses.{World}
use Rattle.v8_loaded.specs.Board.{Device, board}
use Rattle.v8_loaded.specs.Turns.{world_after, turn_at}
use Rattle.v8_board.specs.declared.outcome.Counts.{Counts}
use Rattle.v8_board.specs.Counting.{counts_after}
use Rattle.v8_board.specs.Seen.{ending_of}
use Rattle.sbx_flat.specs.Parts.{Parts}
use Rattle.sbx_flat.specs.Runs.{place_of}
use Rattle.sbx_flat.specs.States.{State}
use Rattle.sbx_flat.specs.Traffic.{after_place}
use Rattle.sbx_flat.specs.declared.path.Traffic.{Traffic}
use Rattle.sbx_flat.specs.Turns.{Step}
use Rattle.sbx_shows.specs.Shows.{Shows}
use Rattle.sbx_shows.specs.Steps.{Over}
use Rattle.sbx_shows.specs.Turns.{IsOwnTurn}

-- r calls with windows, and so many overflows, underflows and turns
abbrev pub so_many : ℕ → ℕ → ℕ → ℕ → Traffic
so_many r o u k = record { windows = r; overflows = o; underflows = u; turns = k }

-- what a board has counted after so many turns
abbrev pub counts_by : (n : ℕ) → MmuRegs → World n Device → ℕ → Counts → Counts
counts_by n mmu x zero c = c
counts_by n mmu x (suc k) c = counts_after (turn_at board n mmu k x).event (counts_by n mmu x k c)

abbrev pub more : Counts → ℕ → ℕ → ℕ → Counts
more c k o u = record { turns = c.turns + k; overflows = c.overflows + o; underflows = c.underflows + u }

-- in a vector or a handler, in supervisor mode; else the flat state is shown, some of whose calls have windows
abbrev pub IsMoment : (n : ℕ) → Parts → World n Device → State → Type 0
IsMoment n parts x s = (x.cpu.control.s ≡ true) ⊎ ((r : ℕ) × Shows n parts x s r)

-- One step of the flat machine from a state with r calls in windows, and so many turns of the board, so many of which
-- take the trap of window overflow and of window underflow, as the window traffic of the step has it. Each turn is one
-- that the image may make. Then the next state is shown, so many of whose calls have windows, or both have ended.
pub record Advances (n : ℕ) (parts : Parts) (mmu : MmuRegs) (x : World n Device) (s : State)
    (r count overflows underflows windows : ℕ) : Type 0 where
  pub next_state : State
  pub step : Step parts s next_state
  pub going : (k : ℕ) → k < count → ending_of n (world_after board n mmu k x) ≡ None
  pub own : (k : ℕ) → k < count → IsOwnTurn parts s (turn_at board n mmu k x)
  pub moments : (k : ℕ) → k < count → IsMoment n parts (world_after board n mmu k x) s
  pub counts : (c : Counts) → c.turns + count ≤ 2 ^ 64 - 1 → c.overflows ≤ c.turns → c.underflows ≤ c.turns →
      counts_by n mmu x count c ≡ more c count overflows underflows
  pub traffic : (o u k : ℕ) →
      after_place parts n (place_of parts s) (so_many r o u k) ≡
      so_many windows (o + overflows) (u + underflows) (k + count)
  pub ends : Shows n parts (world_after board n mmu count x) next_state windows
      ⊎ ((status : ℕ) × Over n parts (world_after board n mmu count x) next_state status)
