-- What a run leaves with its caller.
use Rattle.std.specs.Prelude.{◌≡◌, ◌⊎◌, ℕ, ◌<◌, ◌++◌, List, drop, length}
use Rattle.sbx_image.specs.Parts.{Parts}
use Rattle.sbx_run.specs.Answer.{IsAnswer, KeepsItsDepth, told_of}
use Rattle.sbx_run.specs.declared.runner.Finished.{Finished}
use Rattle.geyserpan.specs.Denials.{IsAdmitted}
use Rattle.geyserpan.specs.declared.running.Report.{Report}
use Rattle.geyserpan.specs.declared.statuses.TheConstants.{OK, ROOM, OUTPUT}
use Rattle.geyserpan.specs.declared.terms.Terms.{Terms}

-- The report tells each thing that the run gave.
pub record Tells (finished : Finished) (report : Report) : Type 0 where
  pub exit : report.exit ≡ finished.status
  pub turns : report.turns ≡ finished.turns
  pub overflows : report.overflows ≡ finished.overflows
  pub underflows : report.underflows ≡ finished.underflows
  pub output : report.output ≡ length finished.output.items
  pub referenced : report.referenced ≡ finished.pages.referenced
  pub modified : report.modified ≡ finished.pages.modified
  pub zero : report.zero ≡ 0

-- The room begins with the output, and goes on as it was.
abbrev pub Hands : List ℕ → List ℕ → List ℕ → Type 0
Hands output before after = after ≡ output ++ drop (length output) before

-- The report is of the image's run on this input, on so many windows.
abbrev pub HasReport : Parts → ℕ → List ℕ → Report → Type 0
HasReport parts windows input report =
    (finished : Finished) × IsAnswer parts windows input finished × KeepsItsDepth parts windows (told_of finished)
    × Tells finished report

-- The room begins with the output of the image's run on this input, goes on as it was, and the report tells the rest.
abbrev pub HasRun : Parts → ℕ → List ℕ → List ℕ → List ℕ → Report → Type 0
HasRun parts windows input before after report =
    (finished : Finished) × IsAnswer parts windows input finished × KeepsItsDepth parts windows (told_of finished)
    × Hands finished.output.items before after × Tells finished report

-- ---- of an image that is admitted, run on as many windows as the terms say

abbrev pub HasRunOn : List ℕ → Terms → List ℕ → List ℕ → List ℕ → Report → Type 0
HasRunOn bytes terms input before after report =
    (parts : Parts) × IsAdmitted bytes terms parts × HasRun parts terms.windows input before after report

-- its output is longer than the terms grant
abbrev pub IsTooMuchOn : List ℕ → Terms → List ℕ → Report → Type 0
IsTooMuchOn bytes terms input report =
    (parts : Parts) × IsAdmitted bytes terms parts × HasReport parts terms.windows input report
    × (terms.output < report.output)

-- its output is longer than the room
abbrev pub IsTooLongOn : List ℕ → Terms → List ℕ → List ℕ → Report → Type 0
IsTooLongOn bytes terms input before report =
    (parts : Parts) × IsAdmitted bytes terms parts × HasReport parts terms.windows input report
    × (length before < report.output)

abbrev pub IsHandStatus : ℕ → Type 0
IsHandStatus status = (status ≡ OK) ⊎ ((status ≡ ROOM) ⊎ (status ≡ OUTPUT))
