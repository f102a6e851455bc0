-- What a call leaves in a room of the caller's: a text at its front, and how long that is.
use Rattle.std.specs.Prelude.{ℕ, ◌≡◌, ◌<◌, ◌++◌, List, drop, length}

-- the room begins with a text of which this holds, goes on as it was, and the text's length is told
abbrev pub Handed : (List ℕ → Type 0) → List ℕ → List ℕ → ℕ → Type 0
Handed Is before after needed =
    (text : List ℕ) × Is text × (after ≡ text ++ drop (length text) before) × (needed ≡ length text)

-- the length of such a text is told, and the room is shorter
abbrev pub NeedsMore : (List ℕ → Type 0) → List ℕ → ℕ → Type 0
NeedsMore Is before needed =
    (text : List ℕ) × Is text × (needed ≡ length text) × (length before < needed)
