-- What the plain machine answers, against what comes of the flat state.
use Rattle.std.specs.Prelude.{◌≡◌, ℕ, ◌≤◌, List, length, Some, Result, Ok, Err}
use Rattle.sbx_image.specs.Parts.{Parts}
use Rattle.sbx_flat.specs.declared.path.Place.{Place}
use Rattle.sbx_flat.specs.Runs.{Run}
use Rattle.sbx_flat.specs.States.{State, Turn, Goes, Fails}
use Rattle.sbx_flat.specs.Turns.{turn}
use Rattle.flat_plain.specs.Shows.{Shows, filled}
use Rattle.flat_plain.specs.declared.machine.Plain.{Plain}
use Rattle.flat_plain.specs.declared.turned.Turned.{Turned}
use Rattle.flat_plain.specs.declared.turned.Turned.TheVariants as turned
use Rattle.flat_plain.specs.declared.runs.Ending.{Ending}
use Rattle.flat_plain.specs.declared.runs.Ending.TheVariants as endings

-- It shows the next state, or tells why there is none.
abbrev pub Comes : Turn → Plain → Turned → Type 0
Comes (Goes next) new turned.Went = Shows new next
Comes (Fails why) new (turned.Failed told) = told ≡ why
Comes _ new _ = ⊥

-- so for every flat state that it shows
abbrev pub Turns : (State → Turn) → Plain → Plain → Turned → Type 0
Turns f old new result = (s : State) → Shows old s → Comes (f s) new result

-- where memory is not refused
abbrev pub TurnsOr : {E : Type 0} → (State → Turn) → Plain → Plain → Result Turned E → Type 0
TurnsOr f old new (Ok result) = Turns f old new result
TurnsOr f old new (Err refused) = Unit

-- the machine goes from each state that it shows to this one
abbrev pub Becomes : (State → State) → Plain → Plain → Type 0
Becomes f old new = (s : State) → Shows old s → Shows new (f s)

-- ---- runs

-- It shows the last state, which has an exit word, or is the one after so many steps as the limit; or there is no next
-- state, for the reason told.
abbrev pub EndsAs : Parts → ℕ → State → Plain → ℕ → List Place → Ending → Type 0
EndsAs parts fill s new limit path (endings.Exit word) = Shows new s × (s.exit ≡ Some word)
EndsAs parts fill s new limit path endings.Limit = Shows new s × (length path ≡ limit)
EndsAs parts fill s new limit path (endings.Failed why) = turn parts (filled fill) s ≡ Fails why

-- A flat run along this path, whose frames hold the fill.
pub record IsRan (parts : Parts) (fill limit : ℕ) (old : State) (new : Plain) (path : List Place)
    (ending : Ending) : Type 0 where
  pub state : State
  pub run : Run parts old path state
  pub within : length path ≤ limit
  pub ends : EndsAs parts fill state new limit path ending
