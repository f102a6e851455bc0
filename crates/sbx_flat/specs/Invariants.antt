-- What an invariant of two runs owes, so that an image is safe.
use Rattle.std.specs.Prelude.{◌≡◌, ℕ, ◌+◌, ◌≤◌, List, None}
use Rattle.sbx_image.specs.Parts.{Parts}
use Rattle.sbx_flat.specs.Runs.{AreBytes, IsStart, budget, place_of, weight_at}
use Rattle.sbx_flat.specs.States.{State}
use Rattle.sbx_flat.specs.Turns.{IsWrong, Step}

-- A relation of a weight so far and two states: those of two runs over one input, whose open words may differ. It holds
-- at each two starts, and is kept by each two steps. Where it holds neither state is wrong, both are at the same place
-- with the same output and exit word, and the weight is within the budget (what a run still needs is the relation's own
-- to say).
pub record IsInvariant (parts : Parts) (I : ℕ → State → State → Type 0) : Type 0 where
  pub begins : (input : List ℕ) (s t : State) → AreBytes input → IsStart parts input s → IsStart parts input t → I 0 s t
  pub steps : (w : ℕ) (s t u v : State) → I w s t → Step parts s u → Step parts t v →
      I (w + weight_at parts (place_of parts s)) u v
  pub never_wrong : (w : ℕ) (s t : State) → I w s t → (IsWrong parts s → ⊥) × (IsWrong parts t → ⊥)
  pub one_place : (w : ℕ) (s t : State) → I w s t → s.exit ≡ None → place_of parts s ≡ place_of parts t
  pub one_end : (w : ℕ) (s t : State) → I w s t → (s.exit ≡ t.exit) × (s.output ≡ t.output)
  pub within : (w : ℕ) (s t : State) → I w s t → w ≤ budget parts
