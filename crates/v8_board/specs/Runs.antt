-- Runs of a board.
use Rattle.std.specs.Prelude.{ℕ, zero, suc, ◌≡◌, ◌<◌, ◌≤◌, Option, Some, None}
use Rattle.v8_board.specs.declared.outcome.Ending.{Ending}
use Rattle.v8_board.specs.declared.outcome.Ending.TheVariants as endings
use Rattle.v8_board.specs.declared.outcome.Outcome.{Outcome}
use Rattle.v8_board.specs.Seen.{State, ending_of, turned}

-- the state after so many turns
abbrev pub state_after : (n : ℕ) → ℕ → State n → State n
state_after n zero s = s
state_after n (suc k) s = (turned n (state_after n k s)).1

-- some turns lead from one state to the other, and the machine had not ended before any of them
pub record Turns (n : ℕ) (old new : State n) : Type 0 where
  pub count : ℕ
  pub running : (j : ℕ) → j < count → ending_of n (state_after n j old).world ≡ None
  pub is : new ≡ state_after n count old

-- a run of at most so many turns, which stops before the limit only at an end
pub record IsRun (n limit : ℕ) (old new : State n) : Type 0 where
  pub turns : Turns n old new
  pub within : turns.count ≤ limit
  pub whole : ending_of n new.world ≡ None → turns.count ≡ limit

-- a run of at most so many turns that the port cut short: the turn that it failed in was still allowed, and was not
-- made
pub record IsCutShort (n limit : ℕ) (old new : State n) : Type 0 where
  pub turns : Turns n old new
  pub within : turns.count < limit
  pub going : ending_of n new.world ≡ None

-- a run that was cut short may go on: with as many turns as are left of its limit it is the run that it would have been
abbrev pub GoesOn : (n : ℕ) → ℕ → State n → State n → Type 0
GoesOn n limit old new = (left : ℕ) × (left ≤ limit) × ((end : State n) → IsRun n left new end → IsRun n limit old end)

abbrev pub ending_or_limit : Option Ending → Ending
ending_or_limit (Some e) = e
ending_or_limit None = endings.Limit

-- what is told of a run that ends in this state
unfoldable pub outcome_of : (n : ℕ) → State n → Outcome
outcome_of n s =
    record {
      ending = ending_or_limit (ending_of n s.world);
      turns = s.counts.turns;
      overflows = s.counts.overflows;
      underflows = s.counts.underflows;
    }
