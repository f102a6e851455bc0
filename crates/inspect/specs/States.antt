-- What is told of the states of an image's run, where the bytes of the file and of the input are known.
use Rattle.std.specs.Prelude.{◌≡◌, ℕ, List, Ok, Option, IfSome}
use Rattle.sbx_image.specs.Parts.{Parts}
use Rattle.sbx_image.specs.Reading.{reading}
use Rattle.sbx_raw.specs.Fronts.{Wrote}
use Rattle.inspect_states.specs.Told.{IsStated}

-- The output grew by a text that tells the states of a run of the image that the bytes spell, on all of the input.
abbrev pub StatesOf : ℕ → ℕ → Option (List ℕ) → Option (List ℕ) → Option (List ℕ) → Option (List ℕ) → Type 0
StatesOf windows limit file input old new = IfSome file (λ bytes. IfSome input (λ all. (parts : Parts)
    × (reading bytes ≡ Ok parts) × Wrote old new (IsStated windows parts all limit)))
