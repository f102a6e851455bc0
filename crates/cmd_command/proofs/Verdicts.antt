-- A job that is refused did not deserve to be done.
use Rattle.std.proofs.Common.{◌≡◌, ℕ, List, Option, None, Some, IfSome, Ok, Err, rules}
use Rattle.sbx_image.specs.ImageFault.{ImageFault}
use Rattle.sbx_image.specs.Parts.{Parts}
use Rattle.sbx_image.specs.Reading.{reading}
use Rattle.sbx_rules.specs.Verdicts.{Checked, IsFirst}
use Rattle.cmd_jobs.specs.declared.jobs.Job.{Job}
use Rattle.cmd_jobs.specs.declared.jobs.Job.TheVariants.{Asm, Verify, Run, List as Listing, Trace}
use Rattle.cmd_stops.specs.declared.stops.CommandStop.{CommandStop}
use Rattle.cmd_stops.specs.declared.stops.CommandStop.TheVariants.{Source, Image, Refused, File, Input, Output, Memory, NoRoom}
use Rattle.cmd_stops.specs.Stops.{IsRefusal, IsTrueOf, IsTrueOfImage, status_of}
use Rattle.cmd_filing.proofs.Sources.{source_stops}
use Rattle.cmd_filing.specs.Files.{IsAccepted, IsImage}
use Rattle.cmd_command.specs.Verdicts.{Deserves, IsBefore, IsTold, StopsFor}

pub faulty_is_no_image : (bytes : List ℕ) (fault : ImageFault) → reading bytes ≡ Err fault → IsImage bytes → ⊥
faulty_is_no_image bytes fault faulty image =
    let read : reading bytes ≡ Ok image.0 = image.1 in
    search rules

pub fault_is_not_checked : (parts other : Parts) (bytes : List ℕ) (refusal : _) → reading bytes ≡ Ok parts
    → IsFirst parts refusal → reading bytes ≡ Ok other → Checked other → ⊥
fault_is_not_checked parts other bytes refusal read least same checked =
    let equal : parts ≡ other = search rules in
    let kept : Checked parts = rw equal checked in
    kept refusal.function refusal.address refusal.cause least.told

pub image_stop : (stop : CommandStop) (bytes : List ℕ) → IsRefusal stop → IsTrueOfImage stop bytes → IsImage bytes → ⊥
image_stop (Source fault) bytes refuses told image = told
image_stop (Image fault) bytes refuses told image = faulty_is_no_image bytes fault told image
image_stop (Refused refusal) bytes refuses told image = told
image_stop File bytes refuses told image = absurd refuses
image_stop Input bytes refuses told image = absurd refuses
image_stop Output bytes refuses told image = absurd refuses
image_stop (Memory want) bytes refuses told image = absurd refuses
image_stop (NoRoom full) bytes refuses told image = absurd refuses

pub rule_stop : (stop : CommandStop) (bytes : List ℕ) → IsRefusal stop → IsTrueOf stop bytes → IsAccepted bytes → ⊥
rule_stop (Source fault) bytes refuses told accepted = told
rule_stop (Image fault) bytes refuses told accepted = faulty_is_no_image bytes fault told (accepted.0, accepted.1)
rule_stop (Refused refusal) bytes refuses told accepted =
    fault_is_not_checked told.0 accepted.0 bytes refusal told.1 told.2 accepted.1 accepted.2
rule_stop File bytes refuses told accepted = absurd refuses
rule_stop Input bytes refuses told accepted = absurd refuses
rule_stop Output bytes refuses told accepted = absurd refuses
rule_stop (Memory want) bytes refuses told accepted = absurd refuses
rule_stop (NoRoom full) bytes refuses told accepted = absurd refuses

pub told_is_refused : (job : Job) (stop : CommandStop) (bytes : List ℕ) → IsRefusal stop → IsTold job stop bytes → Deserves job bytes → ⊥
told_is_refused (Asm source object) stop bytes refuses told deserved = source_stops stop bytes refuses told deserved
told_is_refused (Verify image) stop bytes refuses told deserved = rule_stop stop bytes refuses told deserved
told_is_refused (Run image windows) stop bytes refuses told deserved = rule_stop stop bytes refuses told deserved
told_is_refused (Listing image) stop bytes refuses told deserved = image_stop stop bytes refuses told deserved
told_is_refused (Trace image windows limit) stop bytes refuses told deserved = image_stop stop bytes refuses told deserved

pub known_is_refused : (known : Option (List ℕ)) (job : Job) (stop : CommandStop) → IsRefusal stop
    → IfSome known (IsTold job stop) → IfSome known (λ bytes. Deserves job bytes → ⊥)
known_is_refused None job stop refuses told = tt
known_is_refused (Some bytes) job stop refuses told = told_is_refused job stop bytes refuses told

-- a stop of a job, whose status is told
pub stops_for : (job : Job) (known : Option (List ℕ)) (Untouched : Type 0) (LeftAt : CommandStop → Type 0) (stop : CommandStop) (status : ℕ) → status ≡ status_of stop
    → IfSome known (IsTold job stop) → (IsBefore job stop → Untouched) → LeftAt stop → StopsFor job known Untouched LeftAt status
stops_for job known Untouched LeftAt stop status is told untouched left =
    (stop, is, told, (λ refuses. known_is_refused known job stop refuses told), untouched, left)

-- what is said of a stop without its line
pub without_line : (job : Job) (known : Option (List ℕ)) (Untouched : Type 0) (LeftAt Line : CommandStop → Type 0) (status : ℕ)
    → StopsFor job known Untouched (λ stop. LeftAt stop × Line stop) status → StopsFor job known Untouched LeftAt status
without_line job known Untouched LeftAt Line status (stop, is, told, refuses, untouched, left) = (stop, is, told, refuses, untouched, left.0)
