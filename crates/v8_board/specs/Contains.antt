-- A board that an image was loaded into, whatever the image's words.
use Rattle.std.specs.Prelude.{ℕ}
use Rattle.sbx_image.specs.Parts.{Parts}
use Rattle.v8_core.specs.declared.turn.Turn.{Turn}
use Rattle.v8_contained.specs.Contained.{IsContained, TurnIs}
use Rattle.v8_board.specs.Runs.{state_after}
use Rattle.v8_board.specs.Seen.{State, turned}
use Rattle.v8_board.specs.Start.{contents_of, pages_of}

-- the invariant of containment, of the board's state now
abbrev pub Contains : (n : ℕ) → Parts → State n → Type 0
Contains n p s = IsContained n (pages_of p) (contents_of p) s.mmu s.world

-- it is kept, whichever image it is of
abbrev pub Keeps : (n : ℕ) → State n → State n → Type 0
Keeps n old new = (p : Parts) → Contains n p old → Contains n p new

-- and this turn led from the one state to the other: what it fetched, reached and did to the device is what containment
-- allows
abbrev pub KeepsBy : (n : ℕ) → State n → Turn → State n → Type 0
KeepsBy n old turn new = (p : Parts) → Contains n p old →
    TurnIs n (pages_of p) (contents_of p) old.mmu old.world (turn, new.world)

-- the turn that this board makes next is one that containment allows
abbrev pub TurnsAsAllowed : (n : ℕ) → Parts → State n → Type 0
TurnsAsAllowed n p s = TurnIs n (pages_of p) (contents_of p) s.mmu s.world ((turned n s).0, (turned n s).1.world)

-- and so are all turns from here on, however many
abbrev pub StaysContained : (n : ℕ) → Parts → State n → Type 0
StaysContained n p s = (k : ℕ) → TurnsAsAllowed n p (state_after n k s)
