-- Boards of which one has more input than is known yet, and whose output was partly taken away.
use Rattle.std.specs.Prelude.{ℕ, ◌≡◌, ◌≤◌, Bool, true, false, List, [], ◌∷◌, ◌++◌, length}
use Rattle.v8_board.specs.Board.{Device}
use Rattle.v8_board.specs.Seen.{State, turned}

-- what stands in the first board's input past the bytes that are known: a mark and more, or nothing where the end was
-- met
abbrev pub left : Bool → ℕ → List ℕ → List ℕ
left true x l = []
left false x l = x ∷ l

-- what stands there in the other's
abbrev pub beyond : Bool → List ℕ → List ℕ
beyond true j = []
beyond false j = j

-- the same bytes come next in both; the second has put `w` out before what the first holds
abbrev pub Follows : Bool → ℕ → List ℕ → List ℕ → List ℕ → Device → Device → Type 0
Follows met x l j w d e =
    (c : List ℕ) × (d.input ≡ c ++ left met x l) × (e.input ≡ c ++ beyond met j) × (d.ended ≡ e.ended)
    × (e.output ≡ w ++ d.output) × (d.stopped ≡ e.stopped)

-- the mark has not been read
abbrev pub Fine : Bool → List ℕ → Device → Type 0
Fine true l d = Unit {0}
Fine false l d = length d.input ≤ length l → ⊥

-- two boards, equal but for their devices, of which the second follows the first's
pub record FollowsOn (n : ℕ) (met : Bool) (x : ℕ) (l j w : List ℕ) (s t : State n) : Type 0 where
  pub cpu : s.world.cpu ≡ t.world.cpu
  pub ram : s.world.memory.ram ≡ t.world.memory.ram
  pub device : Follows met x l j w s.world.memory.device t.world.memory.device
  pub mmu : s.mmu ≡ t.mmu
  pub counts : s.counts ≡ t.counts

-- a turn that does not read the mark is the same turn on every input that goes on otherwise
abbrev pub TurnFollows : Type 0
TurnFollows = (n : ℕ) (met : Bool) (x : ℕ) (l j w : List ℕ) (s t : State n) →
    FollowsOn n met x l j w s t → Fine met l (turned n s).1.world.memory.device
    → ((turned n s).0 ≡ (turned n t).0) × FollowsOn n met x l j w (turned n s).1 (turned n t).1

-- a turn gives no input to a board that has none
abbrev pub NothingComes : Type 0
NothingComes = (n : ℕ) (s : State n) → s.world.memory.device.input ≡ [] → (turned n s).1.world.memory.device.input ≡ []

-- ---- the board with another device

abbrev pub with_device : {n : ℕ} → State n → Device → State n
with_device s d = record s { world = record s.world { memory = record s.world.memory { device = d } } }

abbrev pub with_input : {n : ℕ} → State n → List ℕ → State n
with_input s i = with_device s (record s.world.memory.device { input = i })

abbrev pub with_output : {n : ℕ} → State n → List ℕ → State n
with_output s o = with_device s (record s.world.memory.device { output = o })
