-- What is told of known bytes.
use Rattle.std.proofs.Common.{◌≡◌, refl, subst, ℕ, List, Option, None, Some, IfSome, Result, Ok, Err, OnOk, ◌∙◌}
use Rattle.std.specs.Io.KnownBytes.{Appends}
use Rattle.sbx_image.specs.Parts.{Parts}
use Rattle.sbx_image.specs.Reading.{reading}
use Rattle.sbx_rules.specs.declared.cause.Refusal.{Refusal}
use Rattle.sbx_rules.specs.Verdicts.{Checked, IsFirst}
use Rattle.inspect_run.specs.declared.run.Run.{Run}
use Rattle.inspect_run.specs.Runs.{IsRun}
use Rattle.sbx_raw.specs.Fronts.{Wrote}
use Rattle.inspect_run.specs.Watched.{IsWatched}
use Rattle.inspect.specs.declared.words.Form.{Form}
use Rattle.inspect.specs.Told.{Explained, IsImageReport, IsRunReport, IsVerdict, IsVerdictReport, Ran, Shown, TellsRun, Traced}

-- where the report was written
pub shown_if : (form : Form) (file old new : Option (List ℕ)) (parts : Parts) {E : Type 0} (r : Result (Unit {0}) E) → IfSome file (λ bytes. reading bytes ≡ Ok parts)
    → OnOk r (Wrote old new (IsImageReport form parts)) → OnOk r (Shown form file old new)
shown_if form None old new parts (Ok u) read grown = tt
shown_if form (Some bytes) old new parts (Ok u) read grown = (parts, read, grown)
shown_if form file old new parts (Err e) read grown = grown

-- what was written is the report
pub wrote_report : (P : List ℕ → Type 0) (old new : Option (List ℕ)) (text shown : List ℕ) → P text → shown ≡ text → Appends old new shown → Wrote old new P
wrote_report P old new text shown is same grown = (text, is, subst (λ (t : List ℕ). Appends old new t) same grown)

-- the report of a run on a count of windows is that on as many windows
pub told_run : (form : Form) (count windows limit : ℕ) (parts : Parts) (input : List ℕ) (old new : Option (List ℕ)) (run : Run) {E : Type 0} (r : Result (Unit {0}) E)
    → count ≡ windows → IsRun count parts input limit run → OnOk r (Wrote old new (IsRunReport form count limit run)) → OnOk r (TellsRun form windows limit parts input old new)
told_run form count windows limit parts input old new run (Ok u) many is grown = (
  run,
  subst (λ (n : ℕ). IsRun n parts input limit run) many is,
  subst (λ (n : ℕ). Wrote old new (IsRunReport form n limit run)) many grown,
)
told_run form count windows limit parts input old new run (Err e) many is grown = grown

-- where it was told of the bytes read, it is told of all of the input
pub on_all : (P : List ℕ → Type 0) (input : Option (List ℕ)) (items slice : List ℕ) {E : Type 0} (r : Result (Unit {0}) E) → IfSome input (λ all. items ≡ all)
    → slice ≡ items → OnOk r (P slice) → OnOk r (IfSome input P)
on_all P None items slice (Ok u) whole same told = tt
on_all P (Some all) items slice (Ok u) whole same told = subst P (same ∙ whole) told
on_all P input items slice (Err e) whole same told = told

-- where the report was written, of the file's image
pub ran_if : (form : Form) (windows limit : ℕ) (file input old new : Option (List ℕ)) (parts : Parts) {E : Type 0} (r : Result (Unit {0}) E)
    → IfSome file (λ bytes. reading bytes ≡ Ok parts) → OnOk r (IfSome input (λ all. TellsRun form windows limit parts all old new))
    → OnOk r (Ran form windows limit file input old new)
ran_if form windows limit None input old new parts (Ok u) read told = tt
ran_if form windows limit (Some bytes) None old new parts (Ok u) read told = tt
ran_if form windows limit (Some bytes) (Some all) old new parts (Ok u) read (run, is, grown) = (parts, run, read, is, grown)
ran_if form windows limit file input old new parts (Err e) read told = told

-- where each turn was told, of the file's image
pub traced_if : (windows limit : ℕ) (file input old new : Option (List ℕ)) (parts : Parts) {E : Type 0} (r : Result (Unit {0}) E)
    → IfSome file (λ bytes. reading bytes ≡ Ok parts) → OnOk r (IfSome input (λ all. Wrote old new (IsWatched windows parts all limit)))
    → OnOk r (Traced windows limit file input old new)
traced_if windows limit None input old new parts (Ok u) read told = tt
traced_if windows limit (Some bytes) None old new parts (Ok u) read told = tt
traced_if windows limit (Some bytes) (Some all) old new parts (Ok u) read told = (parts, read, told)
traced_if windows limit file input old new parts (Err e) read told = told

-- the turns told on a count of windows are those on as many windows
pub wrote_on : (count windows limit : ℕ) (parts : Parts) (input : List ℕ) (old new : Option (List ℕ)) → count ≡ windows
    → Wrote old new (IsWatched count parts input limit) → Wrote old new (IsWatched windows parts input limit)
wrote_on count windows limit parts input old new many wrote = subst (λ (n : ℕ). Wrote old new (IsWatched n parts input limit)) many wrote

pub verdict_of : (parts : Parts) (found : Option Refusal) → (found ≡ None → Checked parts) → IfSome found (IsFirst parts) → IsVerdict parts found
verdict_of parts None accepted refused = accepted refl
verdict_of parts (Some refusal) accepted refused = refused

pub explained_on : (form : Form) (file old new : Option (List ℕ)) (parts : Parts) (found : Option Refusal) (text shown : List ℕ) → IfSome file (λ bytes. reading bytes ≡ Ok parts)
    → IsVerdict parts found → IsVerdictReport form found text → shown ≡ text → Appends old new shown → Explained form file found old new
explained_on form None old new parts found text shown read verdict report same grown = tt
explained_on form (Some bytes) old new parts found text shown read verdict report same grown =
    (parts, read, verdict, wrote_report (IsVerdictReport form found) old new text shown report same grown)
