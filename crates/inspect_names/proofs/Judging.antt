-- What is told of a source is what is wrong with it.
use Rattle.std.proofs.Common.{◌≡◌, ℕ, List, ◌∷◌, map, Ok, Option, Some, None, IfSome, refl, subst}
use Rattle.sbx_image.specs.Parts.{Parts}
use Rattle.sbx_asm.specs.Images.{source_image}
use Rattle.inspect_check.specs.declared.faults.Faults.{Faults}
use Rattle.inspect_check.specs.Faults.{AreTold}
use Rattle.sbx_rules.specs.declared.cause.Refusal.{Refusal}
use Rattle.sbx_rules.specs.Verdicts.{Checked, IsFirst}
use Rattle.inspect_names.specs.declared.findings.Finding.{Finding}
use Rattle.inspect_names.specs.Findings.{IsAccepted, IsFaulty, IsRefused, fault_place, finding_place}

pub faulty_by : (source : List ℕ) (faults : Faults) (findings : List Finding) → AreTold source faults
    → map finding_place findings ≡ map fault_place (faults.first ∷ faults.others.items) → IsFaulty source faults.first findings
faulty_by source faults findings told places = record { faults = faults; told = told; first = refl; places = places }

pub refused_by : (source : List ℕ) (parts : Parts) (found : Option Refusal) (refusal : Refusal) → source_image source ≡ Ok parts
    → IfSome found (IsFirst parts) → found ≡ Some refusal → IsRefused source refusal
refused_by source parts found refusal means first is =
    record { parts = parts; means = means; first = subst (λ (f : Option Refusal). IfSome f (IsFirst parts)) is first }

pub accepted_by : (source : List ℕ) (parts : Parts) (found : Option Refusal) → source_image source ≡ Ok parts → (found ≡ None → Checked parts)
    → found ≡ None → IsAccepted source
accepted_by source parts found means checked is = record { parts = parts; means = means; checked = checked is }
