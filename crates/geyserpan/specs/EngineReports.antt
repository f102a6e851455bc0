-- What a run on the engine leaves with its caller.
use Rattle.std.specs.Prelude.{◌≡◌, ℕ, ◌<◌, ◌≤◌, List, [], ◌∷◌, length, Some}
use Rattle.sbx_image.specs.Parts.{Parts}
use Rattle.engine_runs.specs.Answer.{IsAnswer}
use Rattle.engine_runs.specs.declared.runs.FlatFinished.{FlatFinished}
use Rattle.geyserpan.specs.Reports.{Hands}
use Rattle.geyserpan.specs.declared.image_slot.ImageSlot.{ImageSlot}
use Rattle.geyserpan.specs.declared.image_slot.Kept.{Kept}
use Rattle.geyserpan.specs.Images.{parts_of}
use Rattle.geyserpan.specs.declared.running.Report.{Report}

-- The report tells each thing that the run gave. No page is told of, since the engine has none.
pub record Tells (finished : FlatFinished) (report : Report) : Type 0 where
  pub exit : report.exit ≡ finished.status
  pub turns : report.turns ≡ finished.turns
  pub overflows : report.overflows ≡ finished.overflows
  pub underflows : report.underflows ≡ finished.underflows
  pub output : report.output ≡ length finished.output.items
  pub referenced : report.referenced ≡ 0 ∷ 0 ∷ 0 ∷ []
  pub modified : report.modified ≡ 0 ∷ 0 ∷ 0 ∷ []
  pub zero : report.zero ≡ 0

-- The report is of the image's run on this input, with the counts of its path on so many windows.
abbrev pub HasReport : Parts → ℕ → List ℕ → Report → Type 0
HasReport parts windows input report = (finished : FlatFinished) × IsAnswer parts windows input finished
    × Tells finished report

-- The room begins with the output of that run, goes on as it was, and the report tells the rest.
abbrev pub HasRun : Parts → ℕ → List ℕ → List ℕ → List ℕ → Report → Type 0
HasRun parts windows input before after report =
    (finished : FlatFinished) × IsAnswer parts windows input finished × Hands finished.output.items before after
    × Tells finished report

-- ---- of an image that a handle holds, with counts on as many windows as its terms say

abbrev pub HasReportOf : ImageSlot → List ℕ → Report → Type 0
HasReportOf slot input report = (kept : Kept) × (slot.kept ≡ Some kept)
    × HasReport (parts_of kept) kept.terms.windows input report

-- its output is longer than its terms grant
abbrev pub IsTooMuchOf : ImageSlot → List ℕ → Report → Type 0
IsTooMuchOf slot input report =
    (kept : Kept) × (slot.kept ≡ Some kept) × HasReport (parts_of kept) kept.terms.windows input report
    × (kept.terms.output < report.output)

-- the room begins with it, no more than its terms grant
abbrev pub HasRunOf : ImageSlot → List ℕ → List ℕ → List ℕ → Report → Type 0
HasRunOf slot input before after report =
    (kept : Kept) × (slot.kept ≡ Some kept) × HasRun (parts_of kept) kept.terms.windows input before after report
    × (report.output ≤ kept.terms.output)
