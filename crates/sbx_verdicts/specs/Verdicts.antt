-- What a verdict says of an image's bytes, and how lines spell it.
use Rattle.std.specs.Prelude.{◌≡◌, ℕ, List, ◌++◌, Ok, codes}
use Rattle.std.specs.Fmt.{decimal}
use Rattle.sbx_image.specs.Parts.{Parts}
use Rattle.sbx_image.specs.Reading.{reading}
use Rattle.sbx_rules.specs.Causes.{eight_digits, shown_cause}
use Rattle.sbx_rules.specs.Verdicts.{Checked}
use Rattle.sbx_run.specs.Refusals.{IsRefusal}
use Rattle.sbx_verdicts.specs.declared.verdicts.Verdict.{Verdict}
use Rattle.sbx_verdicts.specs.declared.verdicts.Verdict.TheVariants.{Accepted, Refused}

-- The bytes spell an image. Where it is accepted it breaks no rule; else the rule is told that comes first of those it
-- breaks, unless memory was refused.
abbrev pub IsVerdict : List ℕ → Verdict → Type 0
IsVerdict bytes (Accepted parts) = (reading bytes ≡ Ok parts) × Checked parts
IsVerdict bytes (Refused refusal) = (parts : Parts) × (reading bytes ≡ Ok parts) × IsRefusal parts refusal

-- the rule, the function and the address, a space apart
abbrev pub spelling : Verdict → List ℕ
spelling (Accepted parts) = codes "accepted"
spelling (Refused refusal) =
    shown_cause refusal.cause
    ++ (codes " " ++ (decimal refusal.function ++ (codes " " ++ eight_digits refusal.address)))
