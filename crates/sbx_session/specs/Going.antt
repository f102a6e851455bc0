-- Where a run in pieces stands, and what that says of what it has put out.
use Rattle.std.specs.Prelude.{ℕ, ◌≡◌, ◌+◌, ◌≤◌, Bool, true, false, List, [], ◌++◌, None}
use Rattle.sbx_image.specs.Parts.{Parts}
use Rattle.sbx_flat.specs.Runs.{AreBytes, Behaves, FlatSafe, budget}
use Rattle.sbx_flat.specs.Traffic.{traffic}
use Rattle.sbx_flat.specs.declared.path.Place.{Place}
use Rattle.v8_loaded.specs.States.{IsState}
use Rattle.v8_board.specs.Contains.{Contains}
use Rattle.v8_board.specs.Runs.{Turns}
use Rattle.v8_board.specs.Seen.{State, ending_of}
use Rattle.v8_board.specs.Start.{IsStart}
use Rattle.sbx_port.specs.Following.{FollowsOn, beyond, with_input}
use Rattle.sbx_port.specs.Ports.{mark}
use Rattle.sbx_run.specs.WholeRuns.{IsImage}
use Rattle.sbx_session.specs.declared.session.Session.{Session}

-- ---- what is said of the bytes

-- On every input that begins with the bytes read, or on these alone where their end was told, what was written are the
-- first bytes of the image's output.
abbrev pub IsFrontOf : Parts → List ℕ → Bool → List ℕ → Type 0
IsFrontOf parts read met written =
    (j : List ℕ) → AreBytes (beyond met j) →
    (rest : List ℕ) × (status : ℕ) × (path : List Place)
    × Behaves parts (read ++ beyond met j) (written ++ rest) status path

-- On every such input it is all of the output, this is the exit word, and these are the turns of its path on n windows.
abbrev pub IsAllOf : Parts → ℕ → List ℕ → Bool → List ℕ → ℕ → ℕ → Type 0
IsAllOf parts n read met written status turns =
    (j : List ℕ) → AreBytes (beyond met j) →
    (path : List Place) × Behaves parts (read ++ beyond met j) written status path
    × (turns ≡ (traffic parts n path).turns)

-- ---- where the board stands

-- On every such input so many turns from this start lead to a state beside the board's: there these bytes were put out
-- before those that the board holds.
abbrev pub Tracks : (n : ℕ) → State n → ℕ → List ℕ → Bool → List ℕ → State n → Type 0
Tracks n start k read met written now =
    (j : List ℕ) → (mid : State n) × ((t : Turns n (with_input start (read ++ beyond met j)) mid) × (t.count ≡ k))
    × FollowsOn n met mark [] j written now mid

-- and so many turns are left of the limit, while the machine has not ended
abbrev pub IsOnItsWay : (n limit : ℕ) → State n → ℕ → List ℕ → Bool → List ℕ → State n → Type 0
IsOnItsWay n limit start left read met written now =
    (k : ℕ) × Tracks n start k read met written now × (k + left ≤ limit)
    × (ending_of n now.world ≡ None → k + left ≡ limit)

-- The board was loaded with this image, whatever it held before, has read these bytes of the input since then, and of
-- what it has put out these bytes were written. It contains the image's run.
pub record IsUnderWay (n : ℕ) (parts : Parts) (read written : List ℕ) (left : ℕ) (met : Bool)
    (now : State n) : Type 0 where
  pub made : State n
  pub start : State n
  pub loaded : IsStart n parts made start
  pub state : IsState n start.mmu start.world
  pub silent : made.world.memory.device.output ≡ []
  pub way : IsOnItsWay n (budget parts) start left read met written now
  pub known : met ≡ true → now.world.memory.device.input ≡ []
  pub bytes : AreBytes read
  pub image : IsImage parts
  pub safe : FlatSafe parts
  pub contained : Contains n parts now

-- The session is a run of this image, which has read these bytes so far, and written those.
abbrev pub Goes : (n : ℕ) → Parts → List ℕ → List ℕ → Session n → Type 0
Goes n parts read written session = IsUnderWay n parts read written session.left session.met session.board.state

-- It is one that has read and written nothing, and wasn't told that its input has ended.
abbrev pub IsBegun : (n : ℕ) → Parts → Session n → Type 0
IsBegun n parts session = Goes n parts [] [] session × (session.met ≡ false)
