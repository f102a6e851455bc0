-- The line of a stop, written to a text of its own.
use Rattle.std.proofs.Common.{◌≡◌, ◌∙◌, ◌++◌, ℕ, List, [], ap}
use Rattle.std.specs.Fmt.{WritesInCalls}
use Rattle.std.proofs.lemmas.Fmt.{contents_after_writes}
use Rattle.arrayvec.specs.ArrayString.{ArrayString}

abbrev pub Grows : ArrayString → List ℕ → ArrayString → Type 0
Grows before bytes after = after.bytes ≡ before.bytes ++ bytes

-- a text that was empty has what was written to it
pub line_is : (before after : ArrayString) (line : List ℕ) → before.bytes ≡ [] → WritesInCalls Grows before line after → after.bytes ≡ line
line_is before after line empty writes =
    contents_after_writes Grows (λ (s : ArrayString). s.bytes) (λ s bytes t grows. grows) before line after writes
    ∙ ap (λ (bytes : List ℕ). bytes ++ line) empty
