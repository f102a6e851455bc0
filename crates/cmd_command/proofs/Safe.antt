-- The image that a source means, from its meaning to what it does.
use Rattle.std.proofs.Common.{◌≡◌, ℕ, List, Option, None, Some, Result, Ok, Err, refl, rules}
use Rattle.sbx_image.specs.ImageFault.{ImageFault}
use Rattle.sbx_image.specs.Parts.{Parts}
use Rattle.sbx_image.specs.Rules.{parts_keep}
use Rattle.sbx_image.proofs.AgainLaws.{reading_again}
use Rattle.sbx_asm.specs.declared.fault.AsmFault.{AsmFault}
use Rattle.sbx_asm.specs.Rules.{at}
use Rattle.sbx_asm.specs.Images.{source_image, judged, whole_cause}
use Rattle.sbx_asm.proofs.Fitting.{meant_images_fit}
use Rattle.sbx_stream.proofs.Whole.{checked_is_safe}
use Rattle.cmd_command.specs.Laws.{SourcesAreSafe}

abbrev kept : ℕ → Parts → Result (Unit {0}) ImageFault → Result Parts AsmFault
kept after p verdict = elim verdict [ Ok u ↦ Ok p | Err f ↦ Err (at after (whole_cause p)) ]

kept_keeps : (after : ℕ) (p parts : Parts) (verdict : Result (Unit {0}) ImageFault) → parts_keep p ≡ verdict → kept after p verdict ≡ Ok parts
    → parts_keep parts ≡ Ok tt
kept_keeps after p parts (Ok u) is told = search rules
kept_keeps after p parts (Err f) is told = search rules

judged_keeps : (after : ℕ) (fault : Option AsmFault) (p parts : Parts) → judged after fault p ≡ Ok parts → parts_keep parts ≡ Ok tt
judged_keeps after (Some f) p parts told = search rules
judged_keeps after None p parts told = kept_keeps after p parts (parts_keep p) refl told

-- an image that a source means keeps the limits and orders of the format
pub source_keeps : (source : List ℕ) (parts : Parts) → source_image source ≡ Ok parts → parts_keep parts ≡ Ok tt
unfolding source_image
source_keeps source parts told = judged_keeps _ _ _ parts told

pub sources_are_safe : SourcesAreSafe
sources_are_safe source parts told =
    let keeps : parts_keep parts ≡ Ok tt = source_keeps source parts told in
    let fits = meant_images_fit source parts told in
    (reading_again parts fits keeps, checked_is_safe parts (record { kept = keeps; typed = fits }))
