-- What is told of the image of a file, where its bytes are known.
use Rattle.std.specs.Prelude.{◌≡◌, ℕ, List, [], Ok, Option, Some, None, IfSome}
use Rattle.sbx_image.specs.Parts.{Parts}
use Rattle.sbx_image.specs.Reading.{reading}
use Rattle.sbx_rules.specs.declared.cause.Refusal.{Refusal}
use Rattle.sbx_rules.specs.Verdicts.{Checked, IsFirst}
use Rattle.inspect_image.specs.Images.{image_text}
use Rattle.inspect_refusal.specs.Refusals.{Tells}
use Rattle.sbx_raw.specs.Fronts.{Wrote}
use Rattle.inspect_run.specs.declared.run.Run.{Run}
use Rattle.inspect_run.specs.Reports.{run_text}
use Rattle.inspect_run.specs.Runs.{IsRun}
use Rattle.inspect_run.specs.Watched.{IsWatched}
use Rattle.inspect_json.specs.Objects.{IsLine}
use Rattle.inspect_json.specs.Images.{image_json}
use Rattle.inspect_json.specs.Runs.{run_json}
use Rattle.inspect_json.specs.Verdicts.{verdict_json}
use Rattle.inspect.specs.declared.words.Form.{Form}
use Rattle.inspect.specs.declared.words.Form.TheVariants.{Text, Json}

-- ---- in the form that was asked for: lines for people, or one line that is an object

abbrev pub IsImageReport : Form → Parts → List ℕ → Type 0
IsImageReport Text parts text = text ≡ image_text parts
IsImageReport Json parts text = IsLine (image_json parts) text

abbrev pub IsRunReport : Form → ℕ → ℕ → Run → List ℕ → Type 0
IsRunReport Text windows limit run text = text ≡ run_text windows limit run
IsRunReport Json windows limit run text = IsLine (run_json windows limit run) text

-- the object has the text that people are told
abbrev pub IsVerdictReport : Form → Option Refusal → List ℕ → Type 0
IsVerdictReport Text found text = Tells found [] text
IsVerdictReport Json found line = (text : List ℕ) × Tells found [] text × IsLine (verdict_json found text) line

-- ---- what is told of a file

-- The output grew by the report of the image that the bytes spell.
abbrev pub Shown : Form → Option (List ℕ) → Option (List ℕ) → Option (List ℕ) → Type 0
Shown form file old new =
    IfSome file (λ bytes. (parts : Parts) × (reading bytes ≡ Ok parts) × Wrote old new (IsImageReport form parts))

-- The output grew by the report of a run of an image on an input.
abbrev pub TellsRun : Form → ℕ → ℕ → Parts → List ℕ → Option (List ℕ) → Option (List ℕ) → Type 0
TellsRun form windows limit parts input old new = (run : Run) × IsRun windows parts input limit run
    × Wrote old new (IsRunReport form windows limit run)

-- The output grew by the report of a run of the image that the bytes spell, on all of the input.
abbrev pub Ran : Form → ℕ → ℕ → Option (List ℕ) → Option (List ℕ) → Option (List ℕ) → Option (List ℕ) → Type 0
Ran form windows limit file input old new = IfSome file (λ bytes. IfSome input (λ all. (parts : Parts) × (run : Run)
    × (reading bytes ≡ Ok parts) × IsRun windows parts all limit run
    × Wrote old new (IsRunReport form windows limit run)))

-- The output grew by a text that tells each turn of such a run.
abbrev pub Traced : ℕ → ℕ → Option (List ℕ) → Option (List ℕ) → Option (List ℕ) → Option (List ℕ) → Type 0
Traced windows limit file input old new = IfSome file (λ bytes. IfSome input (λ all. (parts : Parts)
    × (reading bytes ≡ Ok parts) × Wrote old new (IsWatched windows parts all limit)))

-- The refusal is that of the image; where there is none, no rule is broken.
abbrev pub IsVerdict : Parts → Option Refusal → Type 0
IsVerdict parts None = Checked parts
IsVerdict parts (Some refusal) = IsFirst parts refusal

-- The verdict is that of the image that the bytes spell, and the output grew by its report.
abbrev pub Explained : Form → Option (List ℕ) → Option Refusal → Option (List ℕ) → Option (List ℕ) → Type 0
Explained form file found old new = IfSome file (λ bytes. (parts : Parts)
    × (reading bytes ≡ Ok parts) × IsVerdict parts found × Wrote old new (IsVerdictReport form found))
