-- From a source to an image that is safe, and from an input that is known whole to its answer.
use Rattle.std.specs.Prelude.{◌≡◌, List, ℕ, Ok, Option, Some}
use Rattle.sbx_image.specs.Parts.{Parts}
use Rattle.sbx_image.specs.Reading.{reading}
use Rattle.sbx_image.specs.Spelling.{spelling}
use Rattle.sbx_asm.specs.Images.{source_image}
use Rattle.sbx_flat.specs.Runs.{AreBytes, FlatSafe}
use Rattle.sbx_rules.specs.Verdicts.{Checked}
use Rattle.cmd_command.specs.Streaming.{Ran, RanOnWhole}

abbrev pub SourcesAreSafe : Type 0
SourcesAreSafe = (source : List ℕ) (parts : Parts) → source_image source ≡ Ok parts
    → (reading (spelling parts) ≡ Ok parts) × (Checked parts → FlatSafe parts)

abbrev pub KnownInputsAreAnswered : Type 0
KnownInputsAreAnswered = (windows : ℕ) (bytes input : List ℕ) (input_now old new : Option (List ℕ)) (status : ℕ) →
    AreBytes input
    → Ran windows (Some bytes) (Some input) input_now old new status → RanOnWhole windows bytes input old new status
