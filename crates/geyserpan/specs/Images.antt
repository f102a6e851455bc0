-- What the handle of an image holds, and what is told of it.
use Rattle.std.specs.Prelude.{◌≡◌, ℕ, ◌<◌, ◌≤◌, List, Some}
use Rattle.std.specs.Arc.{arc_value}
use Rattle.sbx_image.specs.Parts.{Parts}
use Rattle.geyserpan.specs.declared.facts.Facts.{Facts}
use Rattle.geyserpan.specs.declared.image_slot.ImageSlot.{ImageSlot}
use Rattle.geyserpan.specs.declared.image_slot.Kept.{Kept}
use Rattle.geyserpan.specs.declared.running.Report.{Report}
use Rattle.geyserpan.specs.declared.terms.Terms.{Terms}
use Rattle.geyserpan.specs.declared.admitting.Lack.TheVariants as lacks
use Rattle.geyserpan.specs.declared.statuses.TheConstants.{SERVICES, TURNS}
use Rattle.geyserpan.specs.Denials.{IsLack}
use Rattle.geyserpan.specs.Facts.{HasFacts}
use Rattle.geyserpan.specs.Reports.{HasReport, HasRun}

-- the image that is kept, of which other handles may be owners too
abbrev pub parts_of : Kept → Parts
parts_of kept = arc_value kept.opened

-- it holds this image, and these terms
abbrev pub Holds : ImageSlot → Parts → Terms → Type 0
Holds slot parts terms = (kept : Kept) × (slot.kept ≡ Some kept) × (parts_of kept ≡ parts) × (kept.terms ≡ terms)

-- the one holds the image that the other held, on the same terms
abbrev pub Shares : ImageSlot → ImageSlot → Type 0
Shares image other = (kept : Kept) × (image.kept ≡ Some kept) × Holds other (parts_of kept) kept.terms

-- what the statuses of a run's own terms say of them and of the image
abbrev pub IsRunDenial : Parts → Terms → ℕ → Type 0
IsRunDenial parts terms status = (status ≡ SERVICES → IsLack terms parts lacks.Services)
    × (status ≡ TURNS → IsLack terms parts lacks.Turns)

-- so of the image that it holds
abbrev pub RunDenialOf : ImageSlot → Terms → ℕ → Type 0
RunDenialOf slot terms status = (kept : Kept) → slot.kept ≡ Some kept → IsRunDenial (parts_of kept) terms status

-- it holds an image, of which these are the facts
abbrev pub HasFactsOf : ImageSlot → Facts → Type 0
HasFactsOf slot facts = (kept : Kept) × (slot.kept ≡ Some kept) × HasFacts (parts_of kept) facts

-- it holds an image, and this is told of its run on this input, on as many windows as its terms say
abbrev pub HasReportOf : ImageSlot → List ℕ → Report → Type 0
HasReportOf slot input report = (kept : Kept) × (slot.kept ≡ Some kept)
    × HasReport (parts_of kept) kept.terms.windows input report

-- and its output is longer than its terms grant
abbrev pub IsTooMuchOf : ImageSlot → List ℕ → Report → Type 0
IsTooMuchOf slot input report =
    (kept : Kept) × (slot.kept ≡ Some kept) × HasReport (parts_of kept) kept.terms.windows input report
    × (kept.terms.output < report.output)

-- and the room begins with the run's output, no more than its terms grant, and goes on as it was
abbrev pub HasRunOf : ImageSlot → List ℕ → List ℕ → List ℕ → Report → Type 0
HasRunOf slot input before after report =
    (kept : Kept) × (slot.kept ≡ Some kept) × HasRun (parts_of kept) kept.terms.windows input before after report
    × (report.output ≤ kept.terms.output)
